-- Variables of `let`s as the code keeps them.
use Rattle.std.proofs.Common.{◌≡◌, ℕ, zero, suc, ◌+◌, ◌<◌, List, [], ◌∷◌, ◌++◌, length, drop, map, Bool, true, false, Bor, Option, Some, None, refl, sym, ap, subst, ◌∙◌, arith}
use Rattle.std.specs.Prelude.{reverse, slice_get, if◌then◌else◌, cond}
use Rattle.std.specs.Str.{bytes_eq}
use Rattle.std.proofs.lemmas.List.{length-reverse, reverse-append, reverse-reverse}
use Rattle.std.proofs.lemmas.Slice.Eq.{bytes_eq-Decides}
use Rattle.indexmap.specs.IndexMap.{IndexMap, get}
use Rattle.idl_scope.specs.code.LocalNames.{binding_in, bindings_in, place_in, AreHidden, same_name, KeepsNames}
use Rattle.idl_scope.specs.Scopes.{Binding, Declaration, stands_for, found_bound, shown_term}
use Rattle.idl_scope.specs.declared.locals.Variable.{Variable}

pub same_bytes : (a b : List ℕ) → bytes_eq a b ≡ true → a ≡ b
same_bytes a b e = grind (arith, bytes_eq-Decides a b)

other_by : (a b : List ℕ) (r : Bool) → bytes_eq b a ≡ r → bytes_eq a b ≡ false → r ≡ false
other_by a b false k e = refl
other_by a b true k e =
    let same : b ≡ a = same_bytes b a k in
    sym k ∙ ap (λ (x : List ℕ). bytes_eq x a) same ∙ ap (λ (x : List ℕ). bytes_eq a x) (sym same) ∙ e

sym_by : (a b : List ℕ) (r : Bool) → bytes_eq a b ≡ r → r ≡ bytes_eq b a
sym_by a b false e = sym (other_by a b (bytes_eq b a) refl e)
sym_by a b true e =
    let same : a ≡ b = same_bytes a b e in
    sym e ∙ ap (λ (x : List ℕ). bytes_eq x b) same ∙ ap (λ (x : List ℕ). bytes_eq b x) (sym same)

pub bytes_sym : (a b : List ℕ) → bytes_eq a b ≡ bytes_eq b a
bytes_sym a b = sym_by a b (bytes_eq a b) refl

-- ---- what a name is

last_is : {X : Type 0} (xs : List X) (x : X) → slice_get (xs ++ x ∷ []) (length xs) ≡ Some x
last_is [] x = refl
last_is (y ∷ xs) x = last_is xs x

further : {X : Type 0} (xs ys : List X) (k : ℕ) (x : X) → slice_get xs k ≡ Some x → slice_get (xs ++ ys) k ≡ Some x
further [] ys k x e = absurd cc
further (y ∷ xs) ys zero x e = e
further (y ∷ xs) ys (suc k) x e = further xs ys k x e

abbrev IsFoundAt : List ℕ → List Variable → List Binding → List Declaration → ℕ → Type 0
IsFoundAt name variables rest declared k = (v : Variable) × (slice_get (reverse variables) k ≡ Some v) × (found_bound name (map binding_in variables ++ rest) declared ≡ stands_for (shown_term v.term))

found_step : (name : List ℕ) (v : Variable) (variables : List Variable) (rest : List Binding) (declared : List Declaration) (k : ℕ) (b : Bool) → (place_in name variables ≡ Some k → IsFoundAt name variables rest declared k) → bytes_eq name v.name.now ≡ b
    → (if b then Some (length variables) else place_in name variables) ≡ Some k → IsFoundAt name (v ∷ variables) rest declared k
found_step name v variables rest declared k true f h e =
    let at : length variables ≡ k = cc in
    let place : length (reverse variables) ≡ k = length-reverse variables ∙ at in
    (v, ap (λ (vs : List Variable). slice_get vs k) (reverse-append (v ∷ []) variables) ∙ subst (λ (n : ℕ). slice_get (reverse variables ++ v ∷ []) n ≡ Some v) place (last_is (reverse variables) v), rw h refl)
found_step name v variables rest declared k false f h e =
    let g = f e in
    (g.0, ap (λ (vs : List Variable). slice_get vs k) (reverse-append (v ∷ []) variables) ∙ further (reverse variables) (v ∷ []) k g.0 g.1, rw h g.2)

-- the innermost variable of a name is the one that is found
found_by : (name : List ℕ) (variables : List Variable) (rest : List Binding) (declared : List Declaration) (k : ℕ) → place_in name variables ≡ Some k → IsFoundAt name variables rest declared k
found_by name [] rest declared k e = absurd cc
found_by name (v ∷ variables) rest declared k e = found_step name v variables rest declared k (bytes_eq name v.name.now) (found_by name variables rest declared k) refl e

skip_step : (name : List ℕ) (v : Variable) (variables : List Variable) (rest : List Binding) (declared : List Declaration) (b : Bool)
    → (place_in name variables ≡ None → found_bound name (map binding_in variables ++ rest) declared ≡ found_bound name rest declared) → bytes_eq name v.name.now ≡ b → (if b then Some (length variables) else place_in name variables) ≡ None
    → found_bound name (map binding_in (v ∷ variables) ++ rest) declared ≡ found_bound name rest declared
skip_step name v variables rest declared true f h e = absurd cc
skip_step name v variables rest declared false f h e = rw h (f e)

skipped : (name : List ℕ) (variables : List Variable) (rest : List Binding) (declared : List Declaration) → place_in name variables ≡ None → found_bound name (map binding_in variables ++ rest) declared ≡ found_bound name rest declared
skipped name [] rest declared e = refl
skipped name (v ∷ variables) rest declared e = skip_step name v variables rest declared (bytes_eq name v.name.now) (skipped name variables rest declared) refl e

within_get : {X : Type 0} (xs : List X) (k : ℕ) (x : X) → slice_get xs k ≡ Some x → k < length xs
within_get [] k x e = absurd cc
within_get (y ∷ xs) zero x e = omega arith
within_get (y ∷ xs) (suc k) x e = let h = within_get xs k x e in omega (arith, h)

pub place_within : (name : List ℕ) (variables : List Variable) (k : ℕ) → place_in name (reverse variables) ≡ Some k → k < length variables
place_within name variables k e =
    let f = found_by name (reverse variables) [] [] k e in
    within_get variables k f.0 (ap (λ (vs : List Variable). slice_get vs k) (sym (reverse-reverse variables)) ∙ f.1)

same_some : {A : Type 0} (a b : A) → Some a ≡ Some b → a ≡ b
same_some a b e = grind arith

pub found_variable : (name : List ℕ) (variables : List Variable) (rest : List Binding) (declared : List Declaration) (k : ℕ) (v : Variable) → place_in name (reverse variables) ≡ Some k → slice_get variables k ≡ Some v
    → found_bound name (bindings_in variables ++ rest) declared ≡ stands_for (shown_term v.term)
found_variable name variables rest declared k v e at =
    let f = found_by name (reverse variables) rest declared k e in
    let same : f.0 ≡ v = same_some f.0 v (sym f.1 ∙ ap (λ (vs : List Variable). slice_get vs k) (reverse-reverse variables) ∙ at) in
    f.2 ∙ ap (λ (u : Variable). stands_for (shown_term u.term)) same

pub found_outside : (name : List ℕ) (variables : List Variable) (rest : List Binding) (declared : List Declaration) → place_in name (reverse variables) ≡ None → found_bound name (bindings_in variables ++ rest) declared ≡ found_bound name rest declared
found_outside name variables rest declared e = skipped name (reverse variables) rest declared e

-- ---- variables come and go

-- the map has a new place for a name, or none
abbrev pub Sets : {S : Type 0} → IndexMap (Bor (List ℕ)) ℕ S → IndexMap (Bor (List ℕ)) ℕ S → Bor (List ℕ) → Option ℕ → Type 0
Sets old new name place = (q : Bor (List ℕ)) → get same_name new q ≡ cond (same_name name q) place (get same_name old q)

pub keeps_bound : {S : Type 0} (old new : IndexMap (Bor (List ℕ)) ℕ S) (variables pushed : List Variable) (v : Variable) (place : ℕ) → KeepsNames old variables → Sets old new v.name (Some place) → place ≡ length variables → v.hidden ≡ get same_name old v.name → pushed ≡ variables ++ v ∷ []
    → KeepsNames new pushed
keeps_bound old new variables pushed v place keeps sets at hides is =
    let turned : reverse pushed ≡ v ∷ reverse variables = ap reverse is ∙ reverse-append variables (v ∷ []) in
    let number : place ≡ length (reverse variables) = at ∙ sym (length-reverse variables) in
    record {
      places = λ q.
          sets q
          ∙ ap (λ (o : Option ℕ). cond (same_name v.name q) o (get same_name old q)) (ap Some number)
          ∙ ap (cond (same_name v.name q) (Some (length (reverse variables)))) (keeps.places q)
          ∙ ap (λ (b : Bool). cond b (Some (length (reverse variables))) (place_in q.now (reverse variables))) (bytes_sym v.name.now q.now)
          ∙ ap (place_in q.now) (sym turned);
      hides = subst AreHidden (sym turned) (hides ∙ keeps.places v.name, keeps.hides);
    }

unbound_place : (name : List ℕ) (v : Variable) (rest : List Variable) (b : Bool) → bytes_eq v.name.now name ≡ b → v.hidden ≡ place_in v.name.now rest → cond b v.hidden (place_in name (v ∷ rest)) ≡ place_in name rest
unbound_place name v rest true e h = h ∙ ap (λ (n : List ℕ). place_in n rest) (same_bytes v.name.now name e)
unbound_place name v rest false e h = rw (sym (bytes_sym v.name.now name) ∙ e) refl

pub keeps_unbound : {S : Type 0} (old new : IndexMap (Bor (List ℕ)) ℕ S) (variables rest : List Variable) (v : Variable) → KeepsNames old variables → Sets old new v.name v.hidden → variables ≡ rest ++ v ∷ [] → KeepsNames new rest
keeps_unbound old new variables rest v keeps sets is =
    let turned : reverse variables ≡ v ∷ reverse rest = ap reverse is ∙ reverse-append rest (v ∷ []) in
    let hides : AreHidden (v ∷ reverse rest) = subst AreHidden turned keeps.hides in
    record {
      places = λ q.
          sets q
          ∙ ap (cond (same_name v.name q) v.hidden) (keeps.places q ∙ ap (place_in q.now) turned)
          ∙ unbound_place q.now v (reverse rest) (same_name v.name q) refl hides.0;
      hides = hides.1;
    }

drop_next : {X : Type 0} (n : ℕ) (xs : List X) → drop 1 (drop n xs) ≡ drop (suc n) xs
drop_next zero xs = refl
drop_next (suc n) [] = refl
drop_next (suc n) (x ∷ xs) = drop_next n xs

pub drop_twice : {X : Type 0} (n : ℕ) (xs : List X) → drop 1 (drop n xs) ≡ drop (n + 1) xs
drop_twice n xs =
    let next : suc n ≡ n + 1 = omega arith in
    drop_next n xs ∙ ap (λ (k : ℕ). drop k xs) next

same_true : (a : List ℕ) → bytes_eq a a ≡ true
same_true a = grind (arith, bytes_eq-Decides a a)

pub place_of_last : (variables rest : List Variable) (v : Variable) → variables ≡ rest ++ v ∷ [] → place_in v.name.now (reverse variables) ≡ Some (length (reverse rest))
place_of_last variables rest v is =
    ap (λ (vs : List Variable). place_in v.name.now vs) (ap reverse is ∙ reverse-append rest (v ∷ [])) ∙ rw (same_true v.name.now) refl

pub not_none : {A : Type 0} (o : Option A) (a : A) → None ≡ o → o ≡ Some a → ⊥
not_none o a e f = cc
