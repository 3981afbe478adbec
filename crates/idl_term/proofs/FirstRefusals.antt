-- What follows from one result: the first refusal counts.
use Rattle.std.proofs.Common.{◌≡◌, ℕ, zero, suc, ◌≤◌, List, [], ◌∷◌, ◌++◌, length, take, drop, refl, sym, ap, ◌∙◌, arith}
use Rattle.std.specs.Prelude.{Result, Ok, Err}
use Rattle.std.proofs.lemmas.List.{append_assoc}
use Rattle.idl_node.specs.Nodes.{NodeValue}
use Rattle.idl_apply.specs.Applied.{Made}
use Rattle.idl_apply.specs.Comparing.{follows}
use Rattle.idl_term.specs.Lowered.{MadeEach, put_first}
use Rattle.idl_scope.specs.Scopes.{LoweredTerm}
use Rattle.idl_term.specs.code.Walks.{gathered}
use Rattle.idl_apply.specs.declared.error.TermRefusal.{TermRefusal}

pub follows_same : {A B : Type 0} (a : Result A TermRefusal) (f g : A → Result B TermRefusal) → ((x : A) → f x ≡ g x) → follows a f ≡ follows a g
follows_same (Ok x) f g h = h x
follows_same (Err why) f g h = refl

pub follows_err : {A B : Type 0} (a : Result A TermRefusal) (f : A → Result B TermRefusal) (why : TermRefusal) → a ≡ Err why → follows a f ≡ Err why
follows_err a f why e = rw e refl

pub follows_ok : {A B : Type 0} (a : Result A TermRefusal) (f : A → Result B TermRefusal) (x : A) → a ≡ Ok x → follows a f ≡ f x
follows_ok a f x e = rw e refl

-- one more term behind those from base on
pub drop_within : {X : Type 0} (n : ℕ) (xs ys : List X) → n ≤ length xs → drop n (xs ++ ys) ≡ drop n xs ++ ys
drop_within zero xs ys h = refl
drop_within (suc n) [] ys h = absurd (omega arith)
drop_within (suc n) (x ∷ xs) ys h = drop_within n xs ys (omega arith)

pub take_within : {X : Type 0} (n : ℕ) (xs ys : List X) → n ≤ length xs → take n (xs ++ ys) ≡ take n xs
take_within zero xs ys h = refl
take_within (suc n) [] ys h = absurd (omega arith)
take_within (suc n) (x ∷ xs) ys h = ap (λ zs. x ∷ zs) (take_within n xs ys (omega arith))

-- what is made of all values from base on, and then goes on with those before them
abbrev pub Ends : Type 0
Ends = List NodeValue → List LoweredTerm → List LoweredTerm → Result Made TermRefusal

then_each : (rest : Result MadeEach TermRefusal) (m : Made) (base : ℕ) (values : List LoweredTerm) (ends : Ends) → base ≤ length values
    → follows (follows rest (put_first m)) (λ each. ends each.nodes (drop base values ++ each.are) (take base values))
    ≡ follows rest (λ each. ends each.nodes (drop base (values ++ m.is ∷ []) ++ each.are) (take base (values ++ m.is ∷ [])))
then_each (Err why) m base values ends h = refl
then_each (Ok each) m base values ends h =
    let all : drop base values ++ (m.is ∷ each.are) ≡ drop base (values ++ m.is ∷ []) ++ each.are =
    sym (ap (λ xs. xs ++ each.are) (drop_within base values (m.is ∷ []) h) ∙ append_assoc (drop base values) (m.is ∷ []) each.are) in
    ap (λ xs. ends each.nodes xs (take base values)) all ∙ ap (λ xs. ends each.nodes (drop base (values ++ m.is ∷ []) ++ each.are) xs) (sym (take_within base values (m.is ∷ []) h))

-- the first term is made, and then the others
pub first_then : (a : Result Made TermRefusal) (rest : List NodeValue → Result MadeEach TermRefusal) (base : ℕ) (values : List LoweredTerm) (ends : Ends) → base ≤ length values
    → follows (follows a (λ m. follows (rest m.nodes) (put_first m))) (λ each. ends each.nodes (drop base values ++ each.are) (take base values))
    ≡ follows a (λ m. follows (rest m.nodes) (λ each. ends each.nodes (drop base (values ++ m.is ∷ []) ++ each.are) (take base (values ++ m.is ∷ []))))
first_then (Err why) rest base values ends h = refl
first_then (Ok m) rest base values ends h = then_each (rest m.nodes) m base values ends h

pub drop_all : {X : Type 0} (xs : List X) → drop (length xs) xs ≡ []
drop_all [] = refl
drop_all (x ∷ xs) = drop_all xs

pub take_all : {X : Type 0} (xs : List X) → take (length xs) xs ≡ xs
take_all [] = refl
take_all (x ∷ xs) = ap (λ ys. x ∷ ys) (take_all xs)

-- no value is there yet
pub starts : (rest : Result MadeEach TermRefusal) (make : List NodeValue → List LoweredTerm → Result Made TermRefusal) (ends : List NodeValue → List LoweredTerm → Result Made TermRefusal) (values : List LoweredTerm) (base : ℕ) → base ≡ length values
    → follows rest (λ each. follows (make each.nodes (drop base values ++ each.are)) (λ made. ends made.nodes (gathered base values made.is)))
    ≡ follows (follows rest (λ each. make each.nodes each.are)) (λ made. ends made.nodes (values ++ made.is ∷ []))
starts (Err why) make ends values base e = refl
starts (Ok each) make ends values base e = rw (e, drop_all values, take_all values) refl

-- the first part of what grows stays
pub front_trans : {X : Type 0} (a b c : List X) → take (length a) b ≡ a → take (length b) c ≡ b → take (length a) c ≡ a
front_trans [] b c h k = refl
front_trans (x ∷ a) [] c h k = absurd cc
front_trans (x ∷ a) (y ∷ b) [] h k = absurd cc
front_trans (x ∷ a) (y ∷ b) (z ∷ c) h k =
    let first : x ≡ y = cc in
    let second : y ≡ z = cc in
    let others : take (length a) b ≡ a = cc in
    let last : take (length b) c ≡ b = cc in
    let rest : take (length a) c ≡ a = front_trans a b c others last in
    cc

pub front_same : {X : Type 0} (a : List X) → take (length a) a ≡ a
front_same a = take_all a
