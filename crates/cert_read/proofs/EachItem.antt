-- The items of a list, read one by one.
use Rattle.std.proofs.Common.{refl, sym, ap, subst, arith, ◌∙◌, ◌≡◌, ◌<◌, ◌≤◌, ◌+◌, ℕ, List, [], ◌∷◌, ◌++◌, length, drop, Option, Some, None, get_or}
use Rattle.std.specs.Prelude.{option_map}
use Rattle.std.proofs.lemmas.List.{append_assoc, append-nil}
use Rattle.std.proofs.lemmas.Grind.{common_steps}
use Rattle.smt_sexpr.specs.Tree.{Sexpr, Items, none, more}
use Rattle.smt_sexpr.specs.Table.{Table, Means, MeansEach}
use Rattle.cert_read.specs.declared.error.PartError.{PartError}
use Rattle.cert_read.specs.declared.error.PartError.TheVariants.{OutOfMemory, IllFormed}
use Rattle.cert_read.specs.Parts.{put, each_of}
use Rattle.cert_read.specs.code.Shapes.{Lacks}

-- the ids that are left stand for items, and what these stand for is what comes behind the parts
abbrev pub IsLeft : {A : Type 0} → (Sexpr → Option A) → Table → List ℕ → List A → Items → Type 0
IsLeft {A} f t ids parts xs = (ys : Items) × MeansEach t ids ys × (each_of f xs ≡ option_map (λ (zs : List A). parts ++ zs) (each_of f ys))

-- the parts of the first i items are read
abbrev pub IsReadUpTo : {A : Type 0} → (Sexpr → Option A) → Table → List ℕ → ℕ → List A → Type 0
IsReadUpTo f t ids i parts = (xs : Items) → MeansEach t ids xs → IsLeft f t (drop i ids) parts xs

module _ {A : Type 0} (f : Sexpr → Option A) (t : Table) where
  one_more : (parts : List A) (part : A) (o : Option (List A)) → option_map (λ (zs : List A). parts ++ zs) (put (Some part) o) ≡ option_map (λ (zs : List A). (parts ++ part ∷ []) ++ zs) o
  one_more parts part None = refl
  one_more parts part (Some zs) = ap Some (sym (append_assoc parts (part ∷ []) zs))

  turn_from : (id : ℕ) (ids : List ℕ) (parts : List A) (part : A) (xs : Items) → ((x : Sexpr) → Means t id x → f x ≡ Some part) → IsLeft f t (id ∷ ids) parts xs → IsLeft f t ids (parts ++ part ∷ []) xs
  turn_from id ids parts part xs is (none, h, e) = absurd h
  turn_from id ids parts part xs is (more y ys, h, e) =
      let same : f y ≡ Some part = is y h.0 in
      (ys, h.1, e ∙ ap (λ (o : Option A). option_map (λ (zs : List A). parts ++ zs) (put o (each_of f ys))) same ∙ one_more parts part (each_of f ys))

  drop_next : (ids : List ℕ) (i : ℕ) → i < length ids → drop i ids ≡ get_or ids i 0 ∷ drop (i + 1) ids
  drop_next ids i h = grind (arith, common_steps)

  pub each_goes_on : (ids : List ℕ) (i : ℕ) (parts : List A) (part : A) → i < length ids → ((x : Sexpr) → Means t (get_or ids i 0) x → f x ≡ Some part) → IsReadUpTo f t ids i parts → IsReadUpTo f t ids (i + 1) (parts ++ part ∷ [])
  each_goes_on ids i parts part h is read xs means =
      turn_from (get_or ids i 0) (drop (i + 1) ids) parts part xs is (subst (λ (rest : List ℕ). IsLeft f t rest parts xs) (drop_next ids i h) (read xs means))

  head_from : (id : ℕ) (ids : List ℕ) (parts : List A) (xs : Items) → IsLeft f t (id ∷ ids) parts xs → (x : Sexpr) × Means t id x
  head_from id ids parts xs (none, h, e) = absurd h
  head_from id ids parts xs (more y ys, h, e) = (y, h.0)

  pub each_means : (ids : List ℕ) (i : ℕ) (parts : List A) → i < length ids → ((xs : Items) × MeansEach t ids xs) → IsReadUpTo f t ids i parts → (x : Sexpr) × Means t (get_or ids i 0) x
  each_means ids i parts h all read =
      head_from (get_or ids i 0) (drop (i + 1) ids) parts all.0 (subst (λ (rest : List ℕ). IsLeft f t rest parts all.0) (drop_next ids i h) (read all.0 all.1))

  lacks_from : (id : ℕ) (ids : List ℕ) (parts : List A) (xs : Items) (error : PartError) → ((x : Sexpr) → Means t id x → Lacks (f x) error) → IsLeft f t (id ∷ ids) parts xs → Lacks (each_of f xs) error
  lacks_from id ids parts xs OutOfMemory lacks left = tt
  lacks_from id ids parts xs IllFormed lacks (none, h, e) = absurd h
  lacks_from id ids parts xs IllFormed lacks (more y ys, h, e) =
      let no : f y ≡ None = lacks y h.0 in
      e ∙ ap (λ (o : Option A). option_map (λ (zs : List A). parts ++ zs) (put o (each_of f ys))) no

  pub each_lacks : (ids : List ℕ) (i : ℕ) (parts : List A) (error : PartError) → i < length ids → ((x : Sexpr) → Means t (get_or ids i 0) x → Lacks (f x) error) → IsReadUpTo f t ids i parts → (xs : Items) → MeansEach t ids xs → Lacks (each_of f xs) error
  each_lacks ids i parts error h lacks read xs means =
      lacks_from (get_or ids i 0) (drop (i + 1) ids) parts xs error lacks (subst (λ (rest : List ℕ). IsLeft f t rest parts xs) (drop_next ids i h) (read xs means))

  end_from : (parts : List A) (xs : Items) → IsLeft f t [] parts xs → each_of f xs ≡ Some parts
  end_from parts xs (none, h, e) = e ∙ ap Some (append-nil parts)
  end_from parts xs (more y ys, h, e) = absurd h

  drop_end : (ids : List ℕ) (i : ℕ) → length ids ≤ i → drop i ids ≡ []
  drop_end ids i h = grind (arith, common_steps)

  pub each_ends : (ids : List ℕ) (i : ℕ) (parts : List A) → length ids ≤ i → IsReadUpTo f t ids i parts → (xs : Items) → MeansEach t ids xs → each_of f xs ≡ Some parts
  each_ends ids i parts h read xs means = end_from parts xs (subst (λ (rest : List ℕ). IsLeft f t rest parts xs) (drop_end ids i h) (read xs means))
