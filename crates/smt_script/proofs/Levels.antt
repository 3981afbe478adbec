-- What there was at a push is a front of what there is: as tables grow, at a push, and at a pop.
use Rattle.std.proofs.Common.{refl, sym, ap, subst, arith, ◌∙◌, ◌≡◌, ◌≤◌, ◌++◌, ℕ, zero, suc, List, [], ◌∷◌, length, take, replicate, get_or, Some, slice_get}
use Rattle.idl_term.specs.Contexts.{Context, scope_of}
use Rattle.idl_term.specs.Scopes.{Scope, Declaration, Binding}
use Rattle.smt_script.specs.declared.state.Active.{Active}
use Rattle.smt_script.specs.code.Kept.{Kept, IsLevelOf, AreLevels, IsNoLess, Ascend, amount_of, amount_without, cut_to}
use Rattle.smt_script.specs.declared.state.Level.{Level}

-- ---- fronts of lists

pub front_length : {A : Type 0} (xs ys : List A) → take (length xs) ys ≡ xs → length xs ≤ length ys
front_length [] ys e = omega arith
front_length (x ∷ xs) [] e = absurd cc
front_length (x ∷ xs) (y ∷ ys) e =
    let f : take (length xs) ys ≡ xs = cc in
    let r = front_length xs ys f in
    omega arith

-- a front of a front
pub take_front : {A : Type 0} (k : ℕ) (xs ys : List A) → take (length xs) ys ≡ xs → k ≤ length xs → take k ys ≡ take k xs
take_front zero xs ys e low = refl
take_front (suc k) [] ys e low = absurd (omega arith)
take_front (suc k) (x ∷ xs) [] e low = absurd cc
take_front {A = A} (suc k) (x ∷ xs) (y ∷ ys) e low =
    let f : take (length xs) ys ≡ xs = cc in
    let g : y ≡ x = cc in
    ap (λ (z : A). z ∷ take k ys) g ∙ ap (λ (zs : List A). x ∷ zs) (take_front k xs ys f (omega arith))

pub take_take : {A : Type 0} (k n : ℕ) (xs : List A) → k ≤ n → take k (take n xs) ≡ take k xs
take_take zero n xs low = refl
take_take (suc k) zero xs low = absurd (omega arith)
take_take (suc k) (suc n) [] low = refl
take_take {A = A} (suc k) (suc n) (x ∷ xs) low = ap (λ (zs : List A). x ∷ zs) (take_take k n xs (omega arith))

pub take_length : {A : Type 0} (k : ℕ) (xs : List A) → k ≤ length xs → length (take k xs) ≡ k
take_length zero xs low = refl
take_length (suc k) [] low = absurd (omega arith)
take_length (suc k) (x ∷ xs) low = let r = take_length k xs (omega arith) in omega arith

pub take_own : {A : Type 0} (xs : List A) → take (length xs) xs ≡ xs
take_own [] = refl
take_own {A = A} (x ∷ xs) = ap (λ (zs : List A). x ∷ zs) (take_own xs)

pub take_added : {A : Type 0} (xs ys : List A) → take (length xs) (xs ++ ys) ≡ xs
take_added [] ys = refl
take_added {A = A} (x ∷ xs) ys = ap (λ (zs : List A). x ∷ zs) (take_added xs ys)

-- ---- levels that ascend

no_less : (a : Level) → IsNoLess a a
no_less a = record { names = omega arith; defined = omega arith; nodes = omega arith; roots = omega arith }

no_less_than : (a b c : Level) → IsNoLess a b → IsNoLess b c → IsNoLess a c
no_less_than a b c h k =
    let hn = h.names in let kn = k.names in
    let hd = h.defined in let kd = k.defined in
    let ht = h.nodes in let kt = k.nodes in
    let hr = h.roots in let kr = k.roots in
    record { names = omega arith; defined = omega arith; nodes = omega arith; roots = omega arith }

pub ascend_grown : (levels : List Level) (a b : Level) → Ascend (levels ++ a ∷ []) → IsNoLess a b → Ascend (levels ++ b ∷ [])
ascend_grown [] a b h k = tt
ascend_grown (l ∷ []) a b h k = (no_less_than l a b h.0 k, tt)
ascend_grown (l ∷ m ∷ rest) a b h k = (h.0, ascend_grown (m ∷ rest) a b h.1 k)

pub ascend_front : (levels : List Level) (a : Level) → Ascend (levels ++ a ∷ []) → Ascend levels
ascend_front [] a h = tt
ascend_front (l ∷ []) a h = tt
ascend_front (l ∷ m ∷ rest) a h = (h.0, ascend_front (m ∷ rest) a h.1)

ascend_same : (n : ℕ) (a : Level) → Ascend (replicate n a ++ a ∷ [])
ascend_same zero a = tt
ascend_same (suc zero) a = (no_less a, tt)
ascend_same (suc (suc n)) a = (no_less a, ascend_same (suc n) a)

ascend_pushed_one : (n : ℕ) (l a : Level) → IsNoLess l a → Ascend (l ∷ (replicate n a ++ a ∷ []))
ascend_pushed_one zero l a h = (h, tt)
ascend_pushed_one (suc n) l a h = (h, ascend_same (suc n) a)

pub ascend_pushed : (levels : List Level) (n : ℕ) (a : Level) → Ascend (levels ++ a ∷ []) → Ascend ((levels ++ replicate n a) ++ a ∷ [])
ascend_pushed [] n a h = ascend_same n a
ascend_pushed (l ∷ []) n a h = ascend_pushed_one n l a h.0
ascend_pushed (l ∷ m ∷ rest) n a h = (h.0, ascend_pushed (m ∷ rest) n a h.1)

first_no_less : (l : Level) (rest : List Level) (a : Level) → Ascend (l ∷ (rest ++ a ∷ [])) → IsNoLess l a
first_no_less l [] a h = h.0
first_no_less l (m ∷ rest) a h = no_less_than l m a h.0 (first_no_less m rest a h.1)

rest_ascends : (l : Level) (levels : List Level) → Ascend (l ∷ levels) → Ascend levels
rest_ascends l [] h = tt
rest_ascends l (m ∷ rest) h = h.1

-- a level is no more than what there is now
pub level_within : (levels : List Level) (i : ℕ) (l a : Level) → slice_get levels i ≡ Some l → Ascend (levels ++ a ∷ []) → IsNoLess l a
level_within [] i l a e h = absurd cc
level_within (m ∷ rest) zero l a e h = subst (λ (k : Level). IsNoLess k a) (let f : m ≡ l = cc in f) (first_no_less m rest a h)
level_within (m ∷ rest) (suc i) l a e h = level_within rest i l a e (rest_ascends m (rest ++ a ∷ []) h)

-- and what is below it ascends to it
pub ascend_popped : (levels : List Level) (i : ℕ) (l a : Level) → slice_get levels i ≡ Some l → Ascend (levels ++ a ∷ []) → Ascend (take i levels ++ l ∷ [])
ascend_popped [] i l a e h = absurd cc
ascend_popped (m ∷ rest) zero l a e h = tt
ascend_popped (m ∷ []) (suc i) l a e h = absurd cc
ascend_popped (m ∷ n ∷ rest) (suc zero) l a e h = (subst (λ (k : Level). IsNoLess m k) (let f : n ≡ l = cc in f) h.0, tt)
ascend_popped (m ∷ n ∷ rest) (suc (suc i)) l a e h = (h.0, ascend_popped (n ∷ rest) (suc i) l a e h.1)

-- ---- levels of a state

-- each list of the first is a front of the second's
pub record IsFront (a b : Kept) : Type 0 where
  pub names : take (length a.scope.declared) b.scope.declared ≡ a.scope.declared
  pub defined : take (length a.scope.bound) b.scope.bound ≡ a.scope.bound
  pub nodes : take (length a.nodes) b.nodes ≡ a.nodes
  pub roots : take (length a.roots) b.roots ≡ a.roots

pub amount_grown : (a b : Kept) → IsFront a b → IsNoLess (amount_of a) (amount_of b)
amount_grown a b h = record {
  names = front_length a.scope.declared b.scope.declared h.names;
  defined = front_length a.scope.bound b.scope.bound h.defined;
  nodes = front_length a.nodes b.nodes h.nodes;
  roots = front_length a.roots b.roots h.roots;
}

abbrev scope_at : ℕ → ℕ → Scope → Scope
scope_at names defined scope = record { declared = take names scope.declared; bound = take defined scope.bound }

scope_by : (xs ys : List Declaration) (us vs : List Binding) → xs ≡ ys → us ≡ vs → ◌≡◌ {A = Scope} (record { declared = xs; bound = us }) (record { declared = ys; bound = vs })
scope_by xs ys us vs e f = ap (λ (ds : List Declaration). record { declared = ds; bound = us }) e ∙ ap (λ (bs : List Binding). record { declared = ys; bound = bs }) f

level_grown : (a b : Kept) (level : Level) (c : Context) → IsFront a b → IsLevelOf a level c → IsLevelOf b level c
level_grown a b level c h l =
    let n = front_length a.scope.declared b.scope.declared h.names in
    let d = front_length a.scope.bound b.scope.bound h.defined in
    let t = front_length a.nodes b.nodes h.nodes in
    let r = front_length a.roots b.roots h.roots in
    let ln = l.names in let ld = l.defined in let lt = l.table in let lr = l.asserted in
    record {
      names = omega arith;
      defined = omega arith;
      table = omega arith;
      asserted = omega arith;
      scope = l.scope ∙ scope_by _ _ _ _ (sym (take_front level.names a.scope.declared b.scope.declared h.names l.names)) (sym (take_front level.defined a.scope.bound b.scope.bound h.defined l.defined));
      nodes = l.nodes ∙ sym (take_front level.nodes a.nodes b.nodes h.nodes l.table);
      roots = l.roots ∙ sym (take_front level.roots a.roots b.roots h.roots l.asserted);
    }

pub levels_grown : (a b : Kept) (levels : List Level) (below : List Context) → IsFront a b → AreLevels a levels below → AreLevels b levels below
levels_grown a b [] [] h l = tt
levels_grown a b [] (c ∷ below) h l = absurd l
levels_grown a b (level ∷ levels) [] h l = absurd l
levels_grown a b (level ∷ levels) (c ∷ below) h l = (level_grown a b level c h l.0, levels_grown a b levels below h l.1)

pub levels_count : (a : Kept) (levels : List Level) (below : List Context) → AreLevels a levels below → length levels ≡ length below
levels_count a [] [] l = refl
levels_count a [] (c ∷ below) l = absurd l
levels_count a (level ∷ levels) [] l = absurd l
levels_count a (level ∷ levels) (c ∷ below) l = let r = levels_count a levels below l.1 in omega arith

levels_same : (a : Kept) (n : ℕ) (level : Level) (c : Context) → IsLevelOf a level c → AreLevels a (replicate n level) (replicate n c)
levels_same a zero level c h = tt
levels_same a (suc n) level c h = (h, levels_same a n level c h)

pub levels_pushed : (a : Kept) (levels : List Level) (below : List Context) (n : ℕ) (level : Level) (c : Context) → AreLevels a levels below → IsLevelOf a level c → AreLevels a (levels ++ replicate n level) (below ++ replicate n c)
levels_pushed a [] [] n level c l h = levels_same a n level c h
levels_pushed a [] (d ∷ below) n level c l h = absurd l
levels_pushed a (k ∷ levels) [] n level c l h = absurd l
levels_pushed a (k ∷ levels) (d ∷ below) n level c l h = (l.0, levels_pushed a levels below n level c l.1 h)

-- a level's context
pub record HasContext (a : Kept) (below : List Context) (i : ℕ) (level : Level) : Type 0 where
  pub context : Context
  pub at : (other : Context) → get_or below i other ≡ context
  pub is : IsLevelOf a level context

pub level_at : (a : Kept) (levels : List Level) (below : List Context) (i : ℕ) (level : Level) → AreLevels a levels below → slice_get levels i ≡ Some level → HasContext a below i level
level_at a [] below i level l e = absurd cc
level_at a (k ∷ levels) [] i level l e = absurd l
level_at a (k ∷ levels) (c ∷ below) zero level l e = record { context = c; at = λ other. refl; is = subst (λ (m : Level). IsLevelOf a m c) (let f : k ≡ level = cc in f) l.0 }
level_at a (k ∷ levels) (c ∷ below) (suc i) level l e =
    let h = level_at a levels below i level l.1 e in
    record { context = h.context; at = h.at; is = h.is }

level_cut : (a : Kept) (left : ℕ) (to level : Level) (c : Context) → IsNoLess level to → IsNoLess to (amount_of a) → IsLevelOf a level c → IsLevelOf (cut_to a left to) level c
level_cut a left to level c h k l =
    let hn = h.names in let hd = h.defined in let ht = h.nodes in let hr = h.roots in
    let n = take_length to.names a.scope.declared k.names in
    let d = take_length to.defined a.scope.bound k.defined in
    let t = take_length to.nodes a.nodes k.nodes in
    let r = take_length to.roots a.roots k.roots in
    record {
      names = rw n hn;
      defined = rw d hd;
      table = rw t ht;
      asserted = rw r hr;
      scope = l.scope ∙ scope_by _ _ _ _ (sym (take_take level.names to.names a.scope.declared hn)) (sym (take_take level.defined to.defined a.scope.bound hd));
      nodes = l.nodes ∙ sym (take_take level.nodes to.nodes a.nodes ht);
      roots = l.roots ∙ sym (take_take level.roots to.roots a.roots hr);
    }

pub levels_cut : (a : Kept) (left : ℕ) (to : Level) (levels : List Level) (below : List Context) → IsNoLess to (amount_of a) → Ascend (levels ++ to ∷ []) → AreLevels a levels below → AreLevels (cut_to a left to) levels below
levels_cut a left to [] [] k h l = tt
levels_cut a left to [] (c ∷ below) k h l = absurd l
levels_cut a left to (level ∷ levels) [] k h l = absurd l
levels_cut a left to (level ∷ levels) (c ∷ below) k h l =
    (level_cut a left to level c (first_no_less level levels to h) k l.0, levels_cut a left to levels below k (rest_ascends level (levels ++ to ∷ []) h) l.1)

pub levels_taken : (a : Kept) (i : ℕ) (levels : List Level) (below : List Context) → AreLevels a levels below → AreLevels a (take i levels) (take i below)
levels_taken a zero levels below l = tt
levels_taken a (suc i) [] [] l = tt
levels_taken a (suc i) [] (c ∷ below) l = absurd l
levels_taken a (suc i) (level ∷ levels) [] l = absurd l
levels_taken a (suc i) (level ∷ levels) (c ∷ below) l = (l.0, levels_taken a i levels below l.1)

-- what there is now is a level of its own
pub level_now : (a : Kept) (c : Context) → a.scope ≡ scope_of c → a.nodes ≡ c.nodes → a.roots ≡ c.roots → IsLevelOf a (amount_of a) c
level_now a c scope nodes roots = record {
  names = omega arith;
  defined = omega arith;
  table = omega arith;
  asserted = omega arith;
  scope = sym scope ∙ scope_by _ _ _ _ (sym (take_own a.scope.declared)) (sym (take_own a.scope.bound));
  nodes = sym nodes ∙ sym (take_own a.nodes);
  roots = sym roots ∙ sym (take_own a.roots);
}

-- ---- what is active without the assumptions

module _ (a b : Kept) (n : Active) (scope_same : b.scope ≡ a.scope) (nodes_cut : b.nodes ≡ take n.nodes a.nodes) (roots_cut : b.roots ≡ take n.roots a.roots) (within : IsNoLess (amount_without a n) (amount_of a)) where
  level_off : (level : Level) (c : Context) → IsNoLess level (amount_without a n) → IsLevelOf a level c → IsLevelOf b level c
  level_off level c h l =
      let hn = h.names in let hd = h.defined in let ht = h.nodes in let hr = h.roots in
      let t = take_length n.nodes a.nodes within.nodes in
      let r = take_length n.roots a.roots within.roots in
      record {
        names = rw scope_same hn;
        defined = rw scope_same hd;
        table = rw (nodes_cut, t) ht;
        asserted = rw (roots_cut, r) hr;
        scope = l.scope ∙ ap (λ (sc : Scope). scope_at level.names level.defined sc) (sym scope_same);
        nodes = l.nodes ∙ sym (take_take level.nodes n.nodes a.nodes ht) ∙ ap (take level.nodes) (sym nodes_cut);
        roots = l.roots ∙ sym (take_take level.roots n.roots a.roots hr) ∙ ap (take level.roots) (sym roots_cut);
      }

  pub levels_off : (levels : List Level) (below : List Context) → Ascend (levels ++ amount_without a n ∷ []) → AreLevels a levels below → AreLevels b levels below
  levels_off [] [] h l = tt
  levels_off [] (c ∷ below) h l = absurd l
  levels_off (level ∷ levels) [] h l = absurd l
  levels_off (level ∷ levels) (c ∷ below) h l =
      (level_off level c (first_no_less level levels (amount_without a n) h) l.0, levels_off levels below (rest_ascends level (levels ++ amount_without a n ∷ []) h) l.1)
