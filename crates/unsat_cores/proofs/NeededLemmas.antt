-- What the needed lemmas are: the last one, and those that a needed one cites.
use Rattle.std.proofs.Common.{arith, ◌≡◌, ◌<◌, ◌+◌, ℕ, zero, suc, Bool, true, false, List, [], ◌∷◌, length, Contains, Some, refl, ap, ◌∙◌, get_or}
use Rattle.std.specs.Prelude.{slice_get}
use Rattle.std.specs.List.{list_any}
use Rattle.refute_tree.specs.declared.step.Step.{Step}
use Rattle.refute_tree.specs.declared.lemma.Lemma.{Lemma}
use Rattle.unsat_cores.specs.Cited.{cites_lemma, some_marked, is_needed, needed_from}
use Rattle.unsat_cores.proofs.Marks.{or_left, or_right}

-- a step that passes the test
pub any_step : (test : Step → Bool) (steps : List Step) (x : Step) → Contains steps x → test x ≡ true → list_any test steps ≡ true
any_step test [] x (k, lt, e) h = absurd (omega (arith, lt))
any_step test (s ∷ steps) x (zero, lt, e) h = or_left (test s) (list_any test steps) (ap test e ∙ h)
any_step test (s ∷ steps) x (suc k, lt, e) h = or_right (test s) (list_any test steps) (any_step test steps x (k, omega (arith, lt), e) h)

pub marked_at : (test : Step → Bool) (k : ℕ) (lemma : Lemma) (marks : List Bool) (lemmas : List Lemma) → slice_get lemmas k ≡ Some lemma → get_or marks k false ≡ true → list_any test lemma.steps ≡ true → some_marked test marks lemmas ≡ true
marked_at test k lemma [] lemmas at there passes = absurd cc
marked_at test k lemma (b ∷ marks) [] at there passes = absurd cc
marked_at test zero lemma (true ∷ marks) (l ∷ lemmas) at there passes =
    let same : l ≡ lemma = cc in
    or_left (list_any test l.steps) (some_marked test marks lemmas) (ap (λ (m : Lemma). list_any test m.steps) same ∙ passes)
marked_at test zero lemma (false ∷ marks) (l ∷ lemmas) at there passes = absurd cc
marked_at test (suc k) lemma (true ∷ marks) (l ∷ lemmas) at there passes = or_right (list_any test l.steps) (some_marked test marks lemmas) (marked_at test k lemma marks lemmas at there passes)
marked_at test (suc k) lemma (false ∷ marks) (l ∷ lemmas) at there passes = marked_at test k lemma marks lemmas at there passes

pub last_needed : (n : ℕ) (lemmas : List Lemma) (k : ℕ) → suc k ≡ length lemmas → get_or (needed_from n lemmas) k false ≡ true
last_needed n [] k e = absurd (omega arith)
last_needed n (l ∷ []) zero e = refl
last_needed n (l ∷ []) (suc k) e = absurd (omega arith)
last_needed n (l ∷ m ∷ lemmas) zero e = absurd (omega arith)
last_needed n (l ∷ m ∷ lemmas) (suc k) e = last_needed (suc n) (m ∷ lemmas) k (omega arith)

first_needed : (n : ℕ) (rest : List Lemma) (marks : List Bool) (k : ℕ) (lemma : Lemma) → slice_get rest k ≡ Some lemma → get_or marks k false ≡ true → list_any (cites_lemma n) lemma.steps ≡ true → is_needed n rest marks ≡ true
first_needed n [] marks k lemma at there cites = refl
first_needed n (l ∷ rest) marks k lemma at there cites = marked_at (cites_lemma n) k lemma marks (l ∷ rest) at there cites

pub cited_needed : (n : ℕ) (lemmas : List Lemma) (k j : ℕ) (lemma : Lemma) → slice_get lemmas k ≡ Some lemma → get_or (needed_from n lemmas) k false ≡ true → j < k → list_any (cites_lemma (n + j)) lemma.steps ≡ true → get_or (needed_from n lemmas) j false ≡ true
cited_needed n [] k j lemma at there less cites = absurd cc
cited_needed n (l ∷ lemmas) zero j lemma at there less cites = absurd (omega arith)
cited_needed n (l ∷ lemmas) (suc k) zero lemma at there less cites =
    let same : n ≡ n + 0 = omega arith in
    first_needed n lemmas (needed_from (suc n) lemmas) k lemma at there (ap (λ (i : ℕ). list_any (cites_lemma i) lemma.steps) same ∙ cites)
cited_needed n (l ∷ lemmas) (suc k) (suc j) lemma at there less cites =
    let same : suc n + j ≡ n + suc j = omega arith in
    cited_needed (suc n) lemmas k j lemma at there (omega arith) (ap (λ (i : ℕ). list_any (cites_lemma i) lemma.steps) same ∙ cites)
