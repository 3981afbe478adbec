-- Rows of what was made of pairs: an item and each behind it.
use Rattle.std.proofs.Common.{sym, ap, subst, arith, inl, inr, ◌∙◌, ◌≡◌, ◌<◌, ◌≤◌, ◌+◌, ◌-◌, ℕ, List, [], ◌∷◌, ◌++◌, length, drop, get_or, Some, length-append, length-drop}
use Rattle.std.specs.Prelude.{slice_get, slice_range}
use Rattle.std.proofs.Math.ListN.{get_or-append}
use Rattle.std.proofs.lemmas.Bool.{cases_lt}
use Rattle.std.proofs.lemmas.List.{get_or-drop, get_or-take, get_or_push, get_or-append-add, length_push}
use Rattle.std.proofs.lemmas.Option.{get_or_from_slice_get, slice_get-get_or, slice_get_within}
use Rattle.idl_node.specs.code.Repeats.{place_before, LeadsBack, IsRow, AreRows}

-- ---- one row

module _ {A : Type 0} (Is : A → A → ℕ → Type 0) (items : List A) (i : ℕ) where
  module _ (upto : ℕ) (cells new : List ℕ) (k : ℕ) (count : length cells ≡ upto - (i + 1)) (behind : i < upto) (is : new ≡ cells ++ k ∷ []) (known : IsRow Is items i upto cells)
      (one : (a b : A) → slice_get items i ≡ Some a → slice_get items upto ≡ Some b → Is a b k) where
    row_before : (j : ℕ) (a b : A) → i < j → j < upto → slice_get items i ≡ Some a → slice_get items j ≡ Some b → Is a b (get_or new (j - (i + 1)) 0)
    row_before j a b below lt e f =
        let same : get_or new (j - (i + 1)) 0 ≡ get_or cells (j - (i + 1)) 0 =
        ap (λ (xs : List ℕ). get_or xs (j - (i + 1)) 0) is ∙ get_or-append cells (k ∷ []) 0 (j - (i + 1)) (omega (arith, count, below, lt)) in
        subst (Is a b) (sym same) (known j a b below lt e f)

    row_here : (j : ℕ) (a b : A) → upto ≡ j → slice_get items i ≡ Some a → slice_get items j ≡ Some b → Is a b (get_or new (j - (i + 1)) 0)
    row_here j a b at e f =
        let same : get_or new (j - (i + 1)) 0 ≡ k =
        ap (λ (xs : List ℕ). get_or xs (j - (i + 1)) 0) is ∙ get_or_push cells k 0 (j - (i + 1)) (omega (arith, count, at)) in
        subst (Is a b) (sym same) (one a b e (ap (slice_get items) at ∙ f))

    pub row_push : IsRow Is items i (upto + 1) new
    row_push j a b below within e f =
        elim (cases_lt j upto) [ inl lt ↦ row_before j a b below lt e f | inr le ↦ row_here j a b (omega (arith, le, within)) e f ]

-- what is so of more
pub row_better : {A : Type 0} (Is Are : A → A → ℕ → Type 0) → ((a b : A) (k : ℕ) → Is a b k → Are a b k) → (items : List A) (i upto : ℕ) (cells : List ℕ) → IsRow Is items i upto cells → IsRow Are items i upto cells
row_better Is Are better items i upto cells h j a b below within e f = better a b _ (h j a b below within e f)

-- ---- all rows

pub rows_better : {A : Type 0} (Known : Type 0) (Is Are : A → A → ℕ → Type 0) → ((a b : A) (k : ℕ) → Known → Is a b k → Are a b k) → (items : List A) (starts parts : List ℕ)
    → AreRows Known Is items starts parts → AreRows Known Are items starts parts
rows_better Known Is Are better items starts parts h = record {
  room = h.room;
  rows = λ known i lt. row_better Is Are (λ a b k. better a b k known) items i (length items) (drop (get_or starts i 0) parts) (h.rows known i lt);
}

module _ {A : Type 0} (Known : Type 0) (Is : A → A → ℕ → Type 0) (items : List A) (starts parts : List ℕ) (h : AreRows Known Is items starts parts) where
  -- the end of a row is that of an equal item behind its own
  pub row_copied : (before i from to : ℕ) → Known → before < length starts → before < i → slice_get items before ≡ slice_get items i → from ≡ get_or starts before 0 + (i - before)
      → to ≡ from + (length items - (i + 1)) → IsRow Is items i (length items) (slice_range parts from to)
  row_copied before i from to known within lt same at end j a b below fits e f =
      let k : ℕ = j - (i + 1) in
      let there : get_or (slice_range parts from to) k 0 ≡ get_or (drop (get_or starts before 0) parts) (j - (before + 1)) 0 =
      get_or-take (to - from) (drop from parts) k 0 (omega (arith, end, below, fits))
      ∙ get_or-drop from parts k 0
      ∙ ap (λ (n : ℕ). get_or parts n 0) (omega (arith, at, below, lt))
      ∙ sym (get_or-drop (get_or starts before 0) parts (j - (before + 1)) 0) in
      subst (Is a b) (sym there) (h.rows known before within j a b (omega (arith, lt, below)) fits (same ∙ e) f)

  module _ (more cells parts' : List ℕ) (i : ℕ) (count : length starts ≡ i) (long : length cells ≡ length items - (i + 1)) (are : more ≡ starts ++ length parts ∷ []) (is : parts' ≡ parts ++ cells)
      (known_row : Known → IsRow Is items i (length items) cells) where
    start_before : (m : ℕ) → m < i → get_or more m 0 ≡ get_or starts m 0
    start_before m lt = ap (λ (xs : List ℕ). get_or xs m 0) are ∙ get_or-append starts (length parts ∷ []) 0 m (omega (arith, lt, count))

    start_here : (m : ℕ) → i ≡ m → get_or more m 0 ≡ length parts
    start_here m e = ap (λ (xs : List ℕ). get_or xs m 0) are ∙ get_or_push starts (length parts) 0 m (count ∙ e)

    longer : length parts' ≡ length parts + length cells
    longer = ap length is ∙ length-append parts cells

    room_at : (m : ℕ) → m < i + 1 → get_or more m 0 + (length items - (m + 1)) ≤ length parts'
    room_at m lt = elim (cases_lt m i) [
      | inl less ↦ omega (arith, start_before m less, h.room m (omega (arith, less, count)), longer)
      | inr le ↦ let e : i ≡ m = omega (arith, le, lt) in omega (arith, start_here m e, long, longer, e)
    ]

    row_at_before : (m : ℕ) → Known → m < i → IsRow Is items m (length items) (drop (get_or more m 0) parts')
    row_at_before m known less j a b below fits e f =
        let s : ℕ = get_or starts m 0 in
        let k : ℕ = j - (m + 1) in
        let there : get_or (drop (get_or more m 0) parts') k 0 ≡ get_or (drop s parts) k 0 =
        get_or-drop (get_or more m 0) parts' k 0
        ∙ ap (λ (n : ℕ). get_or parts' (n + k) 0) (start_before m less)
        ∙ ap (λ (xs : List ℕ). get_or xs (s + k) 0) is
        ∙ get_or-append parts cells 0 (s + k) (omega (arith, h.room m (omega (arith, less, count)), below, fits))
        ∙ sym (get_or-drop s parts k 0) in
        subst (Is a b) (sym there) (h.rows known m (omega (arith, less, count)) j a b below fits e f)

    row_at_here : (m : ℕ) → Known → i ≡ m → IsRow Is items m (length items) (drop (get_or more m 0) parts')
    row_at_here m known at j a b below fits e f =
        let k : ℕ = j - (m + 1) in
        let there : get_or (drop (get_or more m 0) parts') k 0 ≡ get_or cells (j - (i + 1)) 0 =
        get_or-drop (get_or more m 0) parts' k 0
        ∙ ap (λ (n : ℕ). get_or parts' (n + k) 0) (start_here m at)
        ∙ ap (λ (xs : List ℕ). get_or xs (length parts + k) 0) is
        ∙ get_or-append-add parts cells k 0
        ∙ ap (λ (n : ℕ). get_or cells (j - (n + 1)) 0) (sym at) in
        subst (Is a b) (sym there) (known_row known j a b (omega (arith, below, at)) fits (ap (slice_get items) at ∙ e) f)

    row_at : (m : ℕ) → Known → m < i + 1 → IsRow Is items m (length items) (drop (get_or more m 0) parts')
    row_at m known lt = elim (cases_lt m i) [ inl less ↦ row_at_before m known less | inr le ↦ row_at_here m known (omega (arith, le, lt)) ]

    pub rows_push : AreRows Known Is items more parts'
    rows_push = record {
      room = λ m lt. room_at m (omega (arith, lt, ap length are, length_push starts (length parts), count));
      rows = λ known m lt. row_at m known (omega (arith, lt, ap length are, length_push starts (length parts), count));
    }

-- what was made of the pair with an equal item before
pub row_taken : {A : Type 0} (Is : A → A → ℕ → Type 0) (items : List A) (earlier cells : List ℕ) (i j before : ℕ) (a b : A) → before ≡ place_before earlier j → i < before → before < j → LeadsBack items earlier → IsRow Is items i j cells
    → slice_get items i ≡ Some a → slice_get items j ≡ Some b → Is a b (get_or cells (before - (i + 1)) 0)
row_taken Is items earlier cells i j before a b is low high leads known e f =
    known before a b low high e (ap (slice_get items) is ∙ leads j (omega (arith, is, high)) ∙ f)

-- a row beside the items behind its own
pub row_in_order : {A : Type 0} (Is : A → A → ℕ → Type 0) (items : List A) (i : ℕ) (cells : List ℕ) → IsRow Is items i (length items) cells → (a : A) → slice_get items i ≡ Some a → (n : ℕ) (b : A)
    → slice_get (drop (i + 1) items) n ≡ Some b → Is a b (get_or cells n 0)
row_in_order Is items i cells known a e n b f =
    let within : n < length (drop (i + 1) items) = slice_get_within (drop (i + 1) items) n b f in
    let fits : (i + 1) + n < length items = omega (arith, within, length-drop (i + 1) items) in
    let here : get_or items ((i + 1) + n) b ≡ b = sym (get_or-drop (i + 1) items n b) ∙ get_or_from_slice_get (drop (i + 1) items) n b b f in
    let there : slice_get items ((i + 1) + n) ≡ Some b = slice_get-get_or items ((i + 1) + n) b fits ∙ ap Some here in
    let place : ((i + 1) + n) - (i + 1) ≡ n = omega arith in
    subst (λ (m : ℕ). Is a b (get_or cells m 0)) place (known ((i + 1) + n) a b (omega arith) fits e there)
