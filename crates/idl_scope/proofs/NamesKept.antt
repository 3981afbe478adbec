-- The lists that the code keeps of names, beside what they stand for.
use Rattle.std.proofs.Common.{arith, refl, ap, ◌≡◌, ℕ, zero, suc, List, [], ◌∷◌, ◌++◌, length, take, map, Bool, true, false, Bor}
use Rattle.std.specs.List.{list_any}
use Rattle.std.specs.Str.{bytes_eq}
use Rattle.indexmap.specs.IndexSet.{insert_key}
use Rattle.idl_node.specs.declared.sort.Sort.{Sort}
use Rattle.idl_scope.specs.code.Kept.{declarations_of, definitions_of, names_of}
use Rattle.idl_scope.specs.Scopes.{Declaration, Binding, sorts_of, shown_term}
use Rattle.idl_scope.specs.declared.lowered.Lowered.{Lowered}

abbrev pub texts : List (Bor (List ℕ)) → List (List ℕ)
texts keys = map (λ (k : Bor (List ℕ)). k.now) keys

-- whether the name is among the keys
abbrev pub is_among : List ℕ → List (Bor (List ℕ)) → Bool
is_among name keys = list_any (λ (k : Bor (List ℕ)). bytes_eq name k.now) keys

-- ---- declared names

pub length-declarations : (keys : List (Bor (List ℕ))) (sorts : List Sort) → length keys ≡ length sorts → length (declarations_of (texts keys) sorts) ≡ length sorts
length-declarations [] [] e = refl
length-declarations [] (s ∷ sorts) e = absurd (omega arith)
length-declarations (x ∷ keys) [] e = absurd (omega arith)
length-declarations (x ∷ keys) (s ∷ sorts) e = ap suc (length-declarations keys sorts (omega arith))

pub sorts-declarations : (keys : List (Bor (List ℕ))) (sorts : List Sort) → length keys ≡ length sorts → sorts_of (declarations_of (texts keys) sorts) ≡ sorts
sorts-declarations [] [] e = refl
sorts-declarations [] (s ∷ sorts) e = absurd (omega arith)
sorts-declarations (x ∷ keys) [] e = absurd (omega arith)
sorts-declarations (x ∷ keys) (s ∷ sorts) e = ap (λ (ss : List Sort). s ∷ ss) (sorts-declarations keys sorts (omega arith))

pub names-declarations : (keys : List (Bor (List ℕ))) (sorts : List Sort) → length keys ≡ length sorts → names_of (declarations_of (texts keys) sorts) ≡ texts keys
names-declarations [] [] e = refl
names-declarations [] (s ∷ sorts) e = absurd (omega arith)
names-declarations (x ∷ keys) [] e = absurd (omega arith)
names-declarations (x ∷ keys) (s ∷ sorts) e = ap (λ (ns : List (List ℕ)). x.now ∷ ns) (names-declarations keys sorts (omega arith))

pub take-declarations : (n : ℕ) (keys : List (Bor (List ℕ))) (sorts : List Sort) → length keys ≡ length sorts → declarations_of (texts (take n keys)) (take n sorts) ≡ take n (declarations_of (texts keys) sorts)
take-declarations zero keys sorts e = refl
take-declarations (suc n) [] [] e = refl
take-declarations (suc n) [] (s ∷ sorts) e = absurd (omega arith)
take-declarations (suc n) (x ∷ keys) [] e = absurd (omega arith)
take-declarations (suc n) (x ∷ keys) (s ∷ sorts) e = ap (λ (ds : List Declaration). record { name = x.now; sort = s } ∷ ds) (take-declarations n keys sorts (omega arith))

pub declarations-push : (keys : List (Bor (List ℕ))) (sorts : List Sort) (name : Bor (List ℕ)) (s : Sort) → length keys ≡ length sorts
    → declarations_of (texts (keys ++ name ∷ [])) (sorts ++ s ∷ []) ≡ declarations_of (texts keys) sorts ++ record { name = name.now; sort = s } ∷ []
declarations-push [] [] name s e = refl
declarations-push [] (s' ∷ sorts) name s e = absurd (omega arith)
declarations-push (x ∷ keys) [] name s e = absurd (omega arith)
declarations-push (x ∷ keys) (s' ∷ sorts) name s e = ap (λ (ds : List Declaration). record { name = x.now; sort = s' } ∷ ds) (declarations-push keys sorts name s (omega arith))

-- ---- defined names

pub length-definitions : (keys : List (Bor (List ℕ))) (terms : List Lowered) → length keys ≡ length terms → length (definitions_of (texts keys) terms) ≡ length terms
length-definitions [] [] e = refl
length-definitions [] (t ∷ terms) e = absurd (omega arith)
length-definitions (x ∷ keys) [] e = absurd (omega arith)
length-definitions (x ∷ keys) (t ∷ terms) e = ap suc (length-definitions keys terms (omega arith))

pub take-definitions : (n : ℕ) (keys : List (Bor (List ℕ))) (terms : List Lowered) → length keys ≡ length terms → definitions_of (texts (take n keys)) (take n terms) ≡ take n (definitions_of (texts keys) terms)
take-definitions zero keys terms e = refl
take-definitions (suc n) [] [] e = refl
take-definitions (suc n) [] (t ∷ terms) e = absurd (omega arith)
take-definitions (suc n) (x ∷ keys) [] e = absurd (omega arith)
take-definitions (suc n) (x ∷ keys) (t ∷ terms) e = ap (λ (bs : List Binding). record { name = x.now; stands = shown_term t } ∷ bs) (take-definitions n keys terms (omega arith))

pub definitions-push : (keys : List (Bor (List ℕ))) (terms : List Lowered) (name : Bor (List ℕ)) (t : Lowered) → length keys ≡ length terms
    → definitions_of (texts (keys ++ name ∷ [])) (terms ++ t ∷ []) ≡ definitions_of (texts keys) terms ++ record { name = name.now; stands = shown_term t } ∷ []
definitions-push [] [] name t e = refl
definitions-push [] (t' ∷ terms) name t e = absurd (omega arith)
definitions-push (x ∷ keys) [] name t e = absurd (omega arith)
definitions-push (x ∷ keys) (t' ∷ terms) name t e = ap (λ (bs : List Binding). record { name = x.now; stands = shown_term t' } ∷ bs) (definitions-push keys terms name t (omega arith))

-- ---- keys

-- a key that isn't there goes last
pub key_added : (keys : List (Bor (List ℕ))) (name : Bor (List ℕ)) → is_among name.now keys ≡ false → insert_key (λ (a b : Bor (List ℕ)). bytes_eq a.now b.now) keys name ≡ keys ++ name ∷ []
key_added keys name absent = rw absent refl

-- a key that is there stays alone
pub key_kept : (keys : List (Bor (List ℕ))) (name : Bor (List ℕ)) → is_among name.now keys ≡ true → insert_key (λ (a b : Bor (List ℕ)). bytes_eq a.now b.now) keys name ≡ keys
key_kept keys name among = rw among refl
