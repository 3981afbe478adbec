-- What is made of a formula and each behind it, where some are repeated.
use Rattle.std.proofs.Common.{refl, sym, ap, subst, arith, ◌∙◌, ◌≡◌, ◌<◌, ◌≤◌, ◌+◌, ◌-◌, ℕ, zero, suc, List, [], ◌∷◌, ◌++◌, length, map, drop, get_or, length-drop, append_assoc, append-nil, Option, Some}
use Rattle.std.specs.Prelude.{slice_get, slice_range, Err}
use Rattle.std.proofs.lemmas.List.{at_drop_more, at_drop_all, length-take}
use Rattle.std.proofs.lemmas.Option.{get_or_from_slice_get, slice_get-get_or}
use Rattle.idl_node.specs.declared.error.NodeError.{NodeError}
use Rattle.idl_node.specs.declared.error.NodeError.TheVariants.{Refused, OutOfMemory}
use Rattle.idl_node.specs.declared.error.NodeRefusal.TheVariants.{TooLarge}
use Rattle.idl_node.specs.code.Made.{Makes}
use Rattle.idl_node.specs.code.Repeats.{IsFront, AreToldApart, AreBelow, HasRepeats, IsRow, AreRows, LeadsBack, place_before}
use Rattle.idl_node.specs.Making.{then, different, each_pair, pairs}
use Rattle.idl_node.specs.Nodes.{NodeValue, Placed}
use Rattle.idl_node.proofs.Rows.{row_better, row_copied, row_in_order, row_push, row_taken, rows_better, rows_push}
use Rattle.idl_node.proofs.Settling.{different_repeats}
use Rattle.idl_node.proofs.Steps.{take_whole, front_on}

-- ---- two formulas

-- what was made is found again, where both are in the table
pub told_once : (nodes now : List NodeValue) (members : List ℕ) (i j k : ℕ) → AreBelow (length nodes) members → i < length members → j < length members
    → different nodes (get_or members i 0) (get_or members j 0) ≡ Some (record { nodes = now; number = k }) → AreToldApart now (get_or members i 0) (get_or members j 0) k
told_once nodes now members i j k below hi hj e =
    let found = different_repeats nodes (get_or members i 0) (get_or members j 0) (below i hi) (below j hj) nodes (record { nodes = now; number = k }) (take_whole nodes) e in
    found.1

pub told_taken : (nodes : List NodeValue) (members earlier row : List ℕ) (i j before : ℕ) → before ≡ place_before earlier j → i < before → before < j → j < length members → LeadsBack members earlier
    → (HasRepeats earlier → IsRow (AreToldApart nodes) members i j row) → AreToldApart nodes (get_or members i 0) (get_or members j 0) (get_or row (before - (i + 1)) 0)
told_taken nodes members earlier row i j before is low high within leads known =
    let back : place_before earlier j < j = omega (arith, is, high) in
    row_taken (AreToldApart nodes) members earlier row i j before (get_or members i 0) (get_or members j 0) is low high leads (known (j, back))
    (slice_get-get_or members i 0 (omega (arith, low, high, within))) (slice_get-get_or members j 0 within)

pub told_longer : (nodes now : List NodeValue) → IsFront nodes now → (a b k : ℕ) → AreToldApart nodes a b k → AreToldApart now a b k
told_longer nodes now front a b k told later f = told later (front_on nodes now later front f)

pub told_again : (nodes : List NodeValue) (a b k : ℕ) → AreToldApart nodes a b k → different nodes a b ≡ Some (record { nodes = nodes; number = k })
told_again nodes a b k told = told nodes (take_whole nodes)

-- ---- one formula, and each behind it

module _ (a : ℕ) where
  abbrev pub with_first : List ℕ → List (ℕ × ℕ) → List (ℕ × ℕ)
  with_first seconds rest = map (λ (b : ℕ). (a, b)) seconds ++ rest

  module _ (nodes : List NodeValue) (members : List ℕ) (j : ℕ) (rest : List (ℕ × ℕ)) (before row : List ℕ) where
    pub row_ends : length members ≤ j → each_pair different nodes (before ++ row) (with_first (drop j members) rest) ≡ each_pair different nodes (before ++ row) rest
    row_ends all = at_drop_all (λ (bs : List ℕ). each_pair different nodes (before ++ row) (with_first bs rest)) members j all

    abbrev next_of : Option Placed → Option Placed
    next_of made = (then) made (λ (q : Placed). each_pair different q.nodes ((before ++ row) ++ q.number ∷ []) (with_first (drop (j + 1) members) rest))

    pub row_steps : (now : List NodeValue) (k : ℕ) (more : List ℕ) → j < length members → different nodes a (get_or members j 0) ≡ Some (record { nodes = now; number = k }) → more ≡ row ++ k ∷ []
        → each_pair different nodes (before ++ row) (with_first (drop j members) rest) ≡ each_pair different now (before ++ more) (with_first (drop (j + 1) members) rest)
    row_steps now k more within made are =
        at_drop_more (λ (bs : List ℕ). each_pair different nodes (before ++ row) (with_first bs rest)) members j 0 within
        ∙ ap next_of made
        ∙ ap (λ (ms : List ℕ). each_pair different now ms (with_first (drop (j + 1) members) rest)) (append_assoc before row (k ∷ []) ∙ ap (λ (ms : List ℕ). before ++ ms) (sym are))

    pub row_stops : (now : List NodeValue) (error : NodeError) → j < length members → Makes now (different nodes a (get_or members j 0)) (Err error)
        → Makes now (each_pair different nodes (before ++ row) (with_first (drop j members) rest)) (Err error)
    row_stops now OutOfMemory within made = tt
    row_stops now (Refused TooLarge) within made =
        at_drop_more (λ (bs : List ℕ). each_pair different nodes (before ++ row) (with_first bs rest)) members j 0 within
        ∙ ap next_of made

  -- all of it was made before
  pub row_found : (nodes : List NodeValue) (seconds row before : List ℕ) (rest : List (ℕ × ℕ)) → length seconds ≡ length row
      → ((n b : ℕ) → slice_get seconds n ≡ Some b → AreToldApart nodes a b (get_or row n 0)) → each_pair different nodes before (with_first seconds rest) ≡ each_pair different nodes (before ++ row) rest
  row_found nodes [] [] before rest e h = ap (λ (ms : List ℕ). each_pair different nodes ms rest) (sym (append-nil before))
  row_found nodes [] (k ∷ row) before rest e h = absurd (omega arith)
  row_found nodes (b ∷ seconds) [] before rest e h = absurd (omega arith)
  row_found nodes (b ∷ seconds) (k ∷ row) before rest e h =
      ap (λ (o : Option Placed). (then) o (λ (q : Placed). each_pair different q.nodes (before ++ q.number ∷ []) (with_first seconds rest))) (told_again nodes a b k (h zero b refl))
      ∙ row_found nodes seconds row (before ++ k ∷ []) rest (omega arith) (λ n c f. h (suc n) c f)
      ∙ ap (λ (ms : List ℕ). each_pair different nodes ms rest) (append_assoc before (k ∷ []) row)

-- a making that goes on from a refusal is refused
pub refused_behind : (now : List NodeValue) (first last : Option Placed) (error : NodeError) → first ≡ last → Makes now last (Err error) → Makes now first (Err error)
refused_behind now first last error e h = subst (λ (o : Option Placed). Makes now o (Err error)) (sym e) h

-- ---- a row that grows

module _ (nodes now : List NodeValue) (members : List ℕ) (i j : ℕ) (row more : List ℕ) (k : ℕ) where
  told_at : AreToldApart now (get_or members i 0) (get_or members j 0) k → (a b : ℕ) → slice_get members i ≡ Some a → slice_get members j ≡ Some b → AreToldApart now a b k
  told_at told a b e f =
      subst (λ (x : ℕ). AreToldApart now x b k) (get_or_from_slice_get members i a 0 e)
      (subst (λ (y : ℕ). AreToldApart now (get_or members i 0) y k) (get_or_from_slice_get members j b 0 f) told)

  pub row_grows : IsFront nodes now → length row ≡ j - (i + 1) → i < j → more ≡ row ++ k ∷ [] → IsRow (AreToldApart nodes) members i j row
      → AreToldApart now (get_or members i 0) (get_or members j 0) k → IsRow (AreToldApart now) members i (j + 1) more
  row_grows front count behind is known told =
      row_push (AreToldApart now) members i j row more k count behind is
      (row_better (AreToldApart nodes) (AreToldApart now) (told_longer nodes now front) members i j row known) (told_at told)

-- ---- all rows

module _ (nodes : List NodeValue) (members earlier starts parts : List ℕ) (within : length starts < length members) (rows : AreRows (HasRepeats earlier) (AreToldApart nodes) members starts parts) where
  abbrev first : ℕ
  first = get_or members (length starts) 0

  -- the row of a member that equals one before it
  module _ (leads : LeadsBack members earlier) (before from to : ℕ) (parts' : List ℕ) (is : before ≡ place_before earlier (length starts)) (less : before < length starts)
      (at : from ≡ get_or starts before 0 + (length starts - before)) (end : to ≡ from + (length members - (length starts + 1))) (are : parts' ≡ parts ++ slice_range parts from to) where
    repeated : HasRepeats earlier
    repeated = (length starts, omega (arith, is, less))

    piece_row : IsRow (AreToldApart nodes) members (length starts) (length members) (slice_range parts from to)
    piece_row =
        row_copied (HasRepeats earlier) (AreToldApart nodes) members starts parts rows before (length starts) from to repeated less less
        (ap (slice_get members) is ∙ leads (length starts) (omega (arith, is, less))) at end

    piece_count : length (slice_range parts from to) ≡ length members - (length starts + 1)
    piece_count = omega (arith, length-take (to - from) (drop from parts), length-drop from parts, rows.room before less, at, end, less, within)

    pub copied_made : (rest : List (ℕ × ℕ)) → each_pair different nodes parts (with_first first (drop (length starts + 1) members) rest) ≡ each_pair different nodes parts' rest
    copied_made rest =
        row_found first nodes (drop (length starts + 1) members) (slice_range parts from to) parts rest (omega (arith, piece_count, length-drop (length starts + 1) members))
        (λ n b e. row_in_order (AreToldApart nodes) members (length starts) (slice_range parts from to) piece_row first (slice_get-get_or members (length starts) 0 within) n b e)
        ∙ ap (λ (ms : List ℕ). each_pair different nodes ms rest) (sym are)

    pub copied_rows : AreRows (HasRepeats earlier) (AreToldApart nodes) members (starts ++ length parts ∷ []) parts'
    copied_rows =
        rows_push (HasRepeats earlier) (AreToldApart nodes) members starts parts rows (starts ++ length parts ∷ []) (slice_range parts from to) parts' (length starts) refl piece_count refl are (λ known. piece_row)

  -- the row of another
  pub made_rows : (now : List NodeValue) (row parts' : List ℕ) → IsFront nodes now → length row ≡ length members - (length starts + 1) → parts' ≡ parts ++ row
      → (HasRepeats earlier → IsRow (AreToldApart now) members (length starts) (length members) row) → AreRows (HasRepeats earlier) (AreToldApart now) members (starts ++ length parts ∷ []) parts'
  made_rows now row parts' front count are known =
      rows_push (HasRepeats earlier) (AreToldApart now) members starts parts
      (rows_better (HasRepeats earlier) (AreToldApart nodes) (AreToldApart now) (λ a b k repeats told. told_longer nodes now front a b k told) members starts parts rows)
      (starts ++ length parts ∷ []) row parts' (length starts) refl count refl are known

pub rows_named : (Is : ℕ → ℕ → ℕ → Type 0) (members earlier named starts places parts : List ℕ) → earlier ≡ named → starts ≡ places → AreRows (HasRepeats earlier) Is members starts parts → AreRows (HasRepeats named) Is members places parts
rows_named Is members earlier named starts places parts e f rows =
    subst (λ (es : List ℕ). AreRows (HasRepeats es) Is members places parts) e (subst (λ (ss : List ℕ). AreRows (HasRepeats earlier) Is members ss parts) f rows)

-- ---- from row to row

module _ (nodes now : List NodeValue) (members parts : List ℕ) (i k : ℕ) (within : i < length members) (at : k ≡ i) where
  abbrev row_of : ℕ → List (ℕ × ℕ) → Option Placed
  row_of m rest = each_pair different nodes parts (with_first (get_or members m 0) (drop (m + 1) members) rest)

  starts_with : each_pair different nodes parts (pairs (drop i members)) ≡ row_of k (pairs (drop (i + 1) members))
  starts_with =
      at_drop_more (λ (bs : List ℕ). each_pair different nodes parts (pairs bs)) members i 0 within
      ∙ ap (λ (m : ℕ). row_of m (pairs (drop (i + 1) members))) (sym at)

  pub pairs_step : (parts' : List ℕ) → ((rest : List (ℕ × ℕ)) → row_of k rest ≡ each_pair different now parts' rest)
      → each_pair different nodes parts (pairs (drop i members)) ≡ each_pair different now parts' (pairs (drop (i + 1) members))
  pairs_step parts' made = starts_with ∙ made (pairs (drop (i + 1) members))

  pub pairs_refused : (error : NodeError) → ((rest : List (ℕ × ℕ)) → Makes now (row_of k rest) (Err error)) → Makes now (each_pair different nodes parts (pairs (drop i members))) (Err error)
  pairs_refused error made = refused_behind now _ (row_of k (pairs (drop (i + 1) members))) error starts_with (made (pairs (drop (i + 1) members)))
