-- What is made of a term and each behind it, where some are repeated.
use Rattle.std.proofs.Common.{refl, sym, ap, subst, arith, ◌∙◌, ◌≡◌, ◌<◌, ◌≤◌, ◌+◌, ◌-◌, ℕ, zero, suc, List, [], ◌∷◌, ◌++◌, length, map, drop, get_or, length-drop, append_assoc, append-nil, Some}
use Rattle.std.specs.Prelude.{slice_get, slice_range, Result, Ok, Err}
use Rattle.std.proofs.lemmas.List.{at_drop_more, at_drop_all, length-take}
use Rattle.std.proofs.lemmas.Option.{get_or_from_slice_get, slice_get-get_or}
use Rattle.idl_node.specs.Making.{pairs}
use Rattle.idl_node.specs.Nodes.{NodeValue, Placed}
use Rattle.idl_node.specs.code.Repeats.{IsFront, HasRepeats, IsRow, AreRows, LeadsBack, place_before}
use Rattle.idl_node.proofs.Rows.{row_better, row_copied, row_in_order, row_push, row_taken, rows_better, rows_push}
use Rattle.idl_node.proofs.Steps.{take_whole, front_on}
use Rattle.idl_cases.specs.Guarded.{CaseValue}
use Rattle.idl_apply.specs.Comparing.{cases_compared, each_compared, follows}
use Rattle.idl_apply.specs.code.Repeats.{AreCompared, AreGuarded, term_at}
use Rattle.idl_apply.specs.code.Shapes.{Places}
use Rattle.idl_apply.specs.declared.comparing.Relation.{Relation}
use Rattle.idl_apply.specs.declared.error.TermError.{TermError}
use Rattle.idl_apply.specs.declared.error.TermError.TheVariants.{OutOfMemory, Refused}
use Rattle.idl_apply.specs.declared.error.TermRefusal.{TermRefusal}
use Rattle.idl_apply.proofs.ComparedAgain.{compared_again}

-- a making that goes on from a refusal is refused
pub refused_behind : (now : List NodeValue) (first last : Result Placed TermRefusal) (error : TermError) → first ≡ last → Places now last (Err error) → Places now first (Err error)
refused_behind now first last error e h = subst (λ (o : Result Placed TermRefusal). Places now o (Err error)) (sym e) h

module _ (relation : Relation) where
  -- ---- two terms

  -- what was made is found again, where the guards of both are in the table
  pub compared_once : (nodes now : List NodeValue) (terms : List (List CaseValue)) (i j k : ℕ) → AreGuarded (length nodes) terms → i < length terms → j < length terms
      → cases_compared relation nodes (term_at terms i) (term_at terms j) ≡ Ok (record { nodes = now; number = k }) → AreCompared relation now (term_at terms i) (term_at terms j) k
  compared_once nodes now terms i j k guarded hi hj e =
      let found = compared_again nodes relation (term_at terms i) (term_at terms j) (guarded i hi) (guarded j hj) nodes (record { nodes = now; number = k }) (take_whole nodes) e in
      found.1

  pub compared_before : (nodes : List NodeValue) (terms : List (List CaseValue)) (earlier row : List ℕ) (i j before : ℕ) → before ≡ place_before earlier j → i < before → before < j → j < length terms → LeadsBack terms earlier
      → (HasRepeats earlier → IsRow (AreCompared relation nodes) terms i j row) → AreCompared relation nodes (term_at terms i) (term_at terms j) (get_or row (before - (i + 1)) 0)
  compared_before nodes terms earlier row i j before is low high within leads known =
      let back : place_before earlier j < j = omega (arith, is, high) in
      row_taken (AreCompared relation nodes) terms earlier row i j before (term_at terms i) (term_at terms j) is low high leads (known (j, back))
      (slice_get-get_or terms i [] (omega (arith, low, high, within))) (slice_get-get_or terms j [] within)

  pub compared_longer : (nodes now : List NodeValue) → IsFront nodes now → (a b : List CaseValue) (k : ℕ) → AreCompared relation nodes a b k → AreCompared relation now a b k
  compared_longer nodes now front a b k known later f = known later (front_on nodes now later front f)

  pub found_again : (nodes : List NodeValue) (a b : List CaseValue) (k : ℕ) → AreCompared relation nodes a b k → cases_compared relation nodes a b ≡ Ok (record { nodes = nodes; number = k })
  found_again nodes a b k known = known nodes (take_whole nodes)

  -- ---- one term, and each behind it

  module _ (a : List CaseValue) where
    abbrev pub with_first : List (List CaseValue) → List (List CaseValue × List CaseValue) → List (List CaseValue × List CaseValue)
    with_first seconds rest = map (λ (b : List CaseValue). (a, b)) seconds ++ rest

    module _ (nodes : List NodeValue) (terms : List (List CaseValue)) (j : ℕ) (rest : List (List CaseValue × List CaseValue)) (before row : List ℕ) where
      abbrev from : List (List CaseValue) → Result Placed TermRefusal
      from seconds = each_compared relation nodes (before ++ row) (with_first seconds rest)

      pub row_ends : length terms ≤ j → each_compared relation nodes (before ++ row) (with_first (drop j terms) rest) ≡ each_compared relation nodes (before ++ row) rest
      row_ends all = at_drop_all from terms j all

      abbrev next_of : Result Placed TermRefusal → Result Placed TermRefusal
      next_of made = follows made (λ (q : Placed). each_compared relation q.nodes ((before ++ row) ++ q.number ∷ []) (with_first (drop (j + 1) terms) rest))

      pub row_steps : (now : List NodeValue) (k : ℕ) (more : List ℕ) → j < length terms → cases_compared relation nodes a (term_at terms j) ≡ Ok (record { nodes = now; number = k }) → more ≡ row ++ k ∷ []
          → each_compared relation nodes (before ++ row) (with_first (drop j terms) rest) ≡ each_compared relation now (before ++ more) (with_first (drop (j + 1) terms) rest)
      row_steps now k more within made are =
          at_drop_more from terms j [] within
          ∙ ap next_of made
          ∙ ap (λ (ms : List ℕ). each_compared relation now ms (with_first (drop (j + 1) terms) rest)) (append_assoc before row (k ∷ []) ∙ ap (λ (ms : List ℕ). before ++ ms) (sym are))

      pub row_stops : (now : List NodeValue) (error : TermError) → j < length terms → Places now (cases_compared relation nodes a (term_at terms j)) (Err error)
          → Places now (each_compared relation nodes (before ++ row) (with_first (drop j terms) rest)) (Err error)
      row_stops now OutOfMemory within made = tt
      row_stops now (Refused why) within made = at_drop_more from terms j [] within ∙ ap next_of made

    -- all of it was made before
    pub row_found : (nodes : List NodeValue) (seconds : List (List CaseValue)) (row before : List ℕ) (rest : List (List CaseValue × List CaseValue)) → length seconds ≡ length row
        → ((n : ℕ) (b : List CaseValue) → slice_get seconds n ≡ Some b → AreCompared relation nodes a b (get_or row n 0)) → each_compared relation nodes before (with_first seconds rest) ≡ each_compared relation nodes (before ++ row) rest
    row_found nodes [] [] before rest e h = ap (λ (ms : List ℕ). each_compared relation nodes ms rest) (sym (append-nil before))
    row_found nodes [] (k ∷ row) before rest e h = absurd (omega arith)
    row_found nodes (b ∷ seconds) [] before rest e h = absurd (omega arith)
    row_found nodes (b ∷ seconds) (k ∷ row) before rest e h =
        ap (λ (o : Result Placed TermRefusal). follows o (λ (q : Placed). each_compared relation q.nodes (before ++ q.number ∷ []) (with_first seconds rest))) (found_again nodes a b k (h zero b refl))
        ∙ row_found nodes seconds row (before ++ k ∷ []) rest (omega arith) (λ n c f. h (suc n) c f)
        ∙ ap (λ (ms : List ℕ). each_compared relation nodes ms rest) (append_assoc before (k ∷ []) row)

  -- ---- a row that grows

  module _ (nodes now : List NodeValue) (terms : List (List CaseValue)) (i j : ℕ) (row more : List ℕ) (k : ℕ) where
    at_both : AreCompared relation now (term_at terms i) (term_at terms j) k → (a b : List CaseValue) → slice_get terms i ≡ Some a → slice_get terms j ≡ Some b → AreCompared relation now a b k
    at_both known a b e f =
        subst (λ (x : List CaseValue). AreCompared relation now x b k) (get_or_from_slice_get terms i a [] e)
        (subst (λ (y : List CaseValue). AreCompared relation now (term_at terms i) y k) (get_or_from_slice_get terms j b [] f) known)

    pub row_grows : IsFront nodes now → length row ≡ j - (i + 1) → i < j → more ≡ row ++ k ∷ [] → IsRow (AreCompared relation nodes) terms i j row
        → AreCompared relation now (term_at terms i) (term_at terms j) k → IsRow (AreCompared relation now) terms i (j + 1) more
    row_grows front count behind is known one =
        row_push (AreCompared relation now) terms i j row more k count behind is
        (row_better (AreCompared relation nodes) (AreCompared relation now) (compared_longer nodes now front) terms i j row known) (at_both one)

  -- ---- all rows

  module _ (nodes : List NodeValue) (terms : List (List CaseValue)) (earlier starts parts : List ℕ) (within : length starts < length terms) (rows : AreRows (HasRepeats earlier) (AreCompared relation nodes) terms starts parts) where
    abbrev first : List CaseValue
    first = term_at terms (length starts)

    -- the row of a term that equals one before it
    module _ (leads : LeadsBack terms earlier) (before from to : ℕ) (parts' : List ℕ) (is : before ≡ place_before earlier (length starts)) (less : before < length starts)
        (at : from ≡ get_or starts before 0 + (length starts - before)) (end : to ≡ from + (length terms - (length starts + 1))) (are : parts' ≡ parts ++ slice_range parts from to) where
      repeated : HasRepeats earlier
      repeated = (length starts, omega (arith, is, less))

      piece_row : IsRow (AreCompared relation nodes) terms (length starts) (length terms) (slice_range parts from to)
      piece_row =
          row_copied (HasRepeats earlier) (AreCompared relation nodes) terms starts parts rows before (length starts) from to repeated less less
          (ap (slice_get terms) is ∙ leads (length starts) (omega (arith, is, less))) at end

      piece_count : length (slice_range parts from to) ≡ length terms - (length starts + 1)
      piece_count = omega (arith, length-take (to - from) (drop from parts), length-drop from parts, rows.room before less, at, end, less, within)

      pub copied_made : (rest : List (List CaseValue × List CaseValue)) → each_compared relation nodes parts (with_first first (drop (length starts + 1) terms) rest) ≡ each_compared relation nodes parts' rest
      copied_made rest =
          row_found first nodes (drop (length starts + 1) terms) (slice_range parts from to) parts rest (omega (arith, piece_count, length-drop (length starts + 1) terms))
          (λ n b e. row_in_order (AreCompared relation nodes) terms (length starts) (slice_range parts from to) piece_row first (slice_get-get_or terms (length starts) [] within) n b e)
          ∙ ap (λ (ms : List ℕ). each_compared relation nodes ms rest) (sym are)

      pub copied_rows : AreRows (HasRepeats earlier) (AreCompared relation nodes) terms (starts ++ length parts ∷ []) parts'
      copied_rows =
          rows_push (HasRepeats earlier) (AreCompared relation nodes) terms starts parts rows (starts ++ length parts ∷ []) (slice_range parts from to) parts' (length starts) refl piece_count refl are (λ known. piece_row)

    -- the row of another
    pub made_rows : (now : List NodeValue) (row parts' : List ℕ) → IsFront nodes now → length row ≡ length terms - (length starts + 1) → parts' ≡ parts ++ row
        → (HasRepeats earlier → IsRow (AreCompared relation now) terms (length starts) (length terms) row) → AreRows (HasRepeats earlier) (AreCompared relation now) terms (starts ++ length parts ∷ []) parts'
    made_rows now row parts' front count are known =
        rows_push (HasRepeats earlier) (AreCompared relation now) terms starts parts
        (rows_better (HasRepeats earlier) (AreCompared relation nodes) (AreCompared relation now) (λ a b k repeats one. compared_longer nodes now front a b k one) terms starts parts rows)
        (starts ++ length parts ∷ []) row parts' (length starts) refl count refl are known

  -- ---- from row to row

  module _ (nodes now : List NodeValue) (terms : List (List CaseValue)) (parts : List ℕ) (i k : ℕ) (within : i < length terms) (at : k ≡ i) where
    abbrev row_of : ℕ → List (List CaseValue × List CaseValue) → Result Placed TermRefusal
    row_of m rest = each_compared relation nodes parts (with_first (term_at terms m) (drop (m + 1) terms) rest)

    starts_with : each_compared relation nodes parts (pairs (drop i terms)) ≡ row_of k (pairs (drop (i + 1) terms))
    starts_with =
        at_drop_more (λ (bs : List (List CaseValue)). each_compared relation nodes parts (pairs bs)) terms i [] within
        ∙ ap (λ (m : ℕ). row_of m (pairs (drop (i + 1) terms))) (sym at)

    pub pairs_step : (parts' : List ℕ) → ((rest : List (List CaseValue × List CaseValue)) → row_of k rest ≡ each_compared relation now parts' rest)
        → each_compared relation nodes parts (pairs (drop i terms)) ≡ each_compared relation now parts' (pairs (drop (i + 1) terms))
    pairs_step parts' made = starts_with ∙ made (pairs (drop (i + 1) terms))

    pub pairs_refused : (error : TermError) → ((rest : List (List CaseValue × List CaseValue)) → Places now (row_of k rest) (Err error)) → Places now (each_compared relation nodes parts (pairs (drop i terms))) (Err error)
    pairs_refused error made = refused_behind now (each_compared relation nodes parts (pairs (drop i terms))) (row_of k (pairs (drop (i + 1) terms))) error starts_with (made (pairs (drop (i + 1) terms)))
