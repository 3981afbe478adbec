-- What the stack of clauses with waiting cases stands for.
use Rattle.std.proofs.Common.{arith, ◌≡◌, ◌<◌, ◌≤◌, ◌+◌, ℕ, zero, suc, List, [], ◌∷◌, ◌++◌, length, take, drop, Some, Bool, true, false, refl, sym, ap, ◌∙◌, subst, append-nil, append_assoc}
use Rattle.std.specs.Prelude.{slice_get, if◌then◌else◌}
use Rattle.std.proofs.lemmas.List.{take-append-le, take-append-drop}
use Rattle.stn_core.specs.declared.literal.Literal.{Literal}
use Rattle.stn_core.specs.Literal.{negation_of}
use Rattle.cert_check.specs.declared.walk.Frame.{Frame}
use Rattle.cert_check.specs.Tests.{is_assumed}
use Rattle.cert_check.specs.Flaws.{cases_of}
use Rattle.refute_tree.specs.declared.step.Step.{Step}
use Rattle.cert_check.specs.code.Walks.{with_literal, clause_in, IsAlike, AreAlike, cases_after, waiting, IsStack, GoesOn, ClosesCases}
use Rattle.cert_check.proofs.Alike.{with_literal_alike, AreAlike-itself, AreAlike-trans, AreAlike-append, cases_alike}
use Rattle.cert_check.proofs.Closing.{among_more, goes_alike, none_behind}

IsStack-low : (low high : ℕ) (frames : List Frame) → IsStack low frames high → low ≤ high
IsStack-low low high [] h = h
IsStack-low low high (f ∷ frames) h = let rest = IsStack-low f.base high frames h.2 in let first = h.0 in omega arith

IsStack-push : (low high : ℕ) (frames : List Frame) (f : Frame) (now : ℕ) → IsStack low frames high → f.base ≡ high → f.place < length (clause_in f.cases) → high ≤ now → IsStack low (frames ++ f ∷ []) now
IsStack-push low high [] f now h is place le = (omega (arith, h), place, omega arith)
IsStack-push low high (g ∷ frames) f now h is place le = (h.0, h.1, IsStack-push g.base high frames f now h.2 is place le)

-- the last frame's place and count of assumptions, and the stack without it
record IsTop (low high : ℕ) (frames : List Frame) (f : Frame) : Type 0 where
  pub stack : IsStack low frames f.base
  pub place : f.place < length (clause_in f.cases)
  pub within : f.base ≤ high

IsStack-pop : (low high : ℕ) (frames : List Frame) (f : Frame) → IsStack low (frames ++ f ∷ []) high → IsTop low high frames f
IsStack-pop low high [] f h = record { stack = h.0; place = h.1; within = h.2 }
IsStack-pop low high (g ∷ frames) f h =
    let top = IsStack-pop g.base high frames f h.2 in
    record { stack = (h.0, h.1, top.stack); place = top.place; within = top.within }

IsStack-higher : (low high now : ℕ) (frames : List Frame) → IsStack low frames high → high ≤ now → IsStack low frames now
IsStack-higher low high now [] h le = omega (arith, h)
IsStack-higher low high now (g ∷ frames) h le = (h.0, h.1, IsStack-higher g.base high now frames h.2 le)

waiting-push : (frames : List Frame) (f : Frame) (assumed : List Literal) → waiting (frames ++ f ∷ []) assumed ≡ cases_after f assumed ++ waiting frames assumed
waiting-push [] f assumed = sym (append-nil (cases_after f assumed))
waiting-push (g ∷ frames) f assumed = ap (λ (xss : List (List Literal)). xss ++ cases_after g assumed) (waiting-push frames f assumed) ∙ append_assoc (cases_after f assumed) (waiting frames assumed) (cases_after g assumed)

cases_after-kept : (f : Frame) (assumed later : List Literal) → f.base ≤ length assumed → cases_after f (assumed ++ later) ≡ cases_after f assumed
cases_after-kept f assumed later le = ap (λ (xs : List Literal). drop 1 (cases_of xs (drop f.place (clause_in f.cases)))) (take-append-le f.base assumed later le)

-- what is assumed later changes nothing
waiting-kept : (low high : ℕ) (frames : List Frame) (assumed later : List Literal) → IsStack low frames high → high ≤ length assumed → waiting frames (assumed ++ later) ≡ waiting frames assumed
waiting-kept low high [] assumed later h le = refl
waiting-kept low high (f ∷ frames) assumed later h le =
    let within = IsStack-low f.base high frames h.2 in
    ap (λ (xss : List (List Literal)). xss ++ cases_after f (assumed ++ later)) (waiting-kept f.base high frames assumed later h.2 le)
    ∙ ap (λ (xss : List (List Literal)). waiting frames assumed ++ xss) (cases_after-kept f assumed later (omega arith))

length_take : {A : Type 0} (n : ℕ) (xs : List A) → n ≤ length xs → length (take n xs) ≡ n
length_take zero xs le = refl
length_take (suc n) [] le = absurd (omega arith)
length_take (suc n) (x ∷ xs) le = ap suc (length_take n xs (omega arith))

waiting-cut : (low high : ℕ) (frames : List Frame) (assumed : List Literal) → IsStack low frames high → high ≤ length assumed → waiting frames (take high assumed) ≡ waiting frames assumed
waiting-cut low high frames assumed h le =
    let all : length (take high assumed) ≡ high = length_take high assumed le in
    sym (waiting-kept low high frames (take high assumed) (drop high assumed) h (omega arith)) ∙ ap (waiting frames) (take-append-drop high assumed)

waiting-with : (low : ℕ) (frames : List Frame) (assumed : List Literal) (l : Literal) (b : Bool) → IsStack low frames (length assumed) → waiting frames (if b then assumed else assumed ++ l ∷ []) ≡ waiting frames assumed
waiting-with low frames assumed l true h = refl
waiting-with low frames assumed l false h = waiting-kept low (length assumed) frames assumed (l ∷ []) h (omega arith)

length_with : (assumed : List Literal) (l : Literal) (b : Bool) → length assumed ≤ length (if b then assumed else assumed ++ l ∷ [])
length_with assumed l true = omega arith
length_with assumed l false = longer assumed
  where
    longer : (xs : List Literal) → length xs ≤ length (xs ++ l ∷ [])
    longer [] = omega arith
    longer (x ∷ xs) = let le = longer xs in omega arith

take_with : (assumed : List Literal) (l : Literal) (b : Bool) → take (length assumed) (if b then assumed else assumed ++ l ∷ []) ≡ assumed
take_with assumed l true = take_all assumed
  where
    take_all : (xs : List Literal) → take (length xs) xs ≡ xs
    take_all [] = refl
    take_all (x ∷ xs) = ap (λ (ys : List Literal). x ∷ ys) (take_all xs)
take_with assumed l false = take_front assumed
  where
    take_front : (xs : List Literal) → take (length xs) (xs ++ l ∷ []) ≡ xs
    take_front [] = refl
    take_front (x ∷ xs) = ap (λ (ys : List Literal). x ∷ ys) (take_front xs)

pub drop_at : (clause : List Literal) (place : ℕ) (l : Literal) → slice_get clause place ≡ Some l → drop place clause ≡ l ∷ drop (place + 1) clause
drop_at [] place l e = absurd (cc)
drop_at (m ∷ clause) zero l e = let s : m ≡ l = cc in ap (λ (k : Literal). k ∷ clause) s
drop_at (m ∷ clause) (suc place) l e = let k : suc place + 1 ≡ suc (place + 1) = omega arith in drop_at clause place l e ∙ ap (λ (n : ℕ). l ∷ drop n (m ∷ clause)) (sym k)

-- into a case
module _ (frames now : List Frame) (assumed more : List Literal) (f : Frame) (l : Literal)
    (stack : IsStack 0 frames (length assumed)) (base : f.base ≡ length assumed) (place : f.place < length (clause_in f.cases)) (literal : slice_get (clause_in f.cases) f.place ≡ Some l)
    (pushed : now ≡ frames ++ f ∷ []) (noted : more ≡ with_literal assumed l) where
  pub entered_stack : IsStack 0 now (length more)
  entered_stack =
      let len : length assumed ≤ length more = subst (λ (xs : List Literal). length assumed ≤ length xs) (sym noted) (length_with assumed l (is_assumed assumed l)) in
      subst (λ (fs : List Frame). IsStack 0 fs (length more)) (sym pushed) (IsStack-push 0 (length assumed) frames f (length more) stack base place len)

  abbrev clause : List Literal
  clause = clause_in f.cases

  back : take f.base more ≡ assumed
  back = ap (λ (n : ℕ). take n more) base ∙ ap (take (length assumed)) noted ∙ take_with assumed l (is_assumed assumed l)

  later : cases_after f more ≡ cases_of (assumed ++ negation_of l ∷ []) (drop (f.place + 1) clause)
  later = ap (λ (xs : List Literal). drop 1 (cases_of xs (drop f.place clause))) back ∙ ap (λ (c : List Literal). drop 1 (cases_of assumed c)) (drop_at clause f.place l literal)

  pub entered_waiting : waiting now more ≡ cases_of (assumed ++ negation_of l ∷ []) (drop (f.place + 1) clause) ++ waiting frames assumed
  entered_waiting =
      ap (λ (fs : List Frame). waiting fs more) pushed
      ∙ waiting-push frames f more
      ∙ ap (λ (xss : List (List Literal)). xss ++ waiting frames more) later
      ∙ ap (λ (xss : List (List Literal)). cases_of (assumed ++ negation_of l ∷ []) (drop (f.place + 1) clause) ++ xss) (ap (waiting frames) noted ∙ waiting-with 0 frames assumed l (is_assumed assumed l) stack)

  pub entered_cases : AreAlike (more ∷ waiting now more) (cases_of assumed (drop f.place clause) ++ waiting frames assumed)
  entered_cases =
      let first : IsAlike more (assumed ++ l ∷ []) = subst (λ (xs : List Literal). IsAlike xs (assumed ++ l ∷ [])) (sym noted) (with_literal_alike assumed l) in
      let rest : AreAlike (waiting now more) (cases_of (assumed ++ negation_of l ∷ []) (drop (f.place + 1) clause) ++ waiting frames assumed) = subst (λ (xss : List (List Literal)). AreAlike xss (cases_of (assumed ++ negation_of l ∷ []) (drop (f.place + 1) clause) ++ waiting frames assumed)) (sym entered_waiting) (AreAlike-itself _) in
      subst (λ (c : List Literal). AreAlike (more ∷ waiting now more) (cases_of assumed c ++ waiting frames assumed)) (sym (drop_at clause f.place l literal)) (first, rest)

-- back to the clause that was opened last
module _ (frames whole : List Frame) (assumed cut : List Literal) (f : Frame) (whole_is : whole ≡ frames ++ f ∷ []) (stack : IsStack 0 whole (length assumed)) (cut_is : cut ≡ take f.base assumed) where
  top : IsTop 0 (length assumed) frames f
  top = IsStack-pop 0 (length assumed) frames f (subst (λ (fs : List Frame). IsStack 0 fs (length assumed)) whole_is stack)

  pub place_within : f.place < length (clause_in f.cases)
  place_within = top.place

  cut_length : f.base ≡ length cut
  cut_length = sym (ap (λ (xs : List Literal). length xs) cut_is ∙ length_take f.base assumed top.within)

  pub cut_stack : IsStack 0 frames (length cut)
  cut_stack = subst (IsStack 0 frames) cut_length top.stack

  whole_waiting : waiting whole assumed ≡ drop 1 (cases_of cut (drop f.place (clause_in f.cases))) ++ waiting frames cut
  whole_waiting =
      ap (λ (fs : List Frame). waiting fs assumed) whole_is
      ∙ waiting-push frames f assumed
      ∙ ap (λ (xs : List Literal). drop 1 (cases_of xs (drop f.place (clause_in f.cases))) ++ waiting frames assumed) (sym cut_is)
      ∙ ap (λ (xss : List (List Literal)). drop 1 (cases_of cut (drop f.place (clause_in f.cases))) ++ xss) (sym (waiting-cut 0 f.base frames assumed top.stack top.within) ∙ ap (waiting frames) (sym cut_is))

  -- the cases behind the one at the place
  cases_behind : (xs clause : List Literal) (place : ℕ) → place < length clause → (m : Literal) × (drop 1 (cases_of xs (drop place clause)) ≡ cases_of (xs ++ m ∷ []) (drop (place + 1) clause))
  cases_behind xs [] place lt = absurd (omega arith)
  cases_behind xs (l ∷ clause) zero lt = (negation_of l, refl)
  cases_behind xs (l ∷ clause) (suc place) lt =
      let more : suc place + 1 ≡ suc (place + 1) = omega arith in
      let t = cases_behind xs clause place (omega arith) in
      (t.0, t.1 ∙ ap (λ (n : ℕ). cases_of (xs ++ t.0 ∷ []) (drop n (l ∷ clause))) (sym more))

  -- all of the clause's later cases were closed
  pub closed_all : (next : ℕ) (steps rest : List Step) → length (clause_in f.cases) ≤ next → ClosesCases cut (clause_in f.cases) (f.place + 1) next steps rest → GoesOn (waiting whole assumed) steps (waiting frames cut) rest
  closed_all next steps rest all closed =
      let behind = cases_behind cut (clause_in f.cases) f.place top.place in
      let more : List Literal = cut ++ behind.0 ∷ [] in
      let others : List (List Literal) = waiting frames cut in
      let from : cases_of more (drop (f.place + 1) (clause_in f.cases)) ++ others ≡ waiting whole assumed =
      ap (λ (xss : List (List Literal)). xss ++ others) (sym behind.1) ∙ sym whole_waiting in
      let to : cases_of more (drop next (clause_in f.cases)) ++ others ≡ others =
      ap (λ (c : List Literal). cases_of more c ++ others) (none_behind (clause_in f.cases) next all) in
      subst (λ (xss : List (List Literal)). GoesOn xss steps others rest) from
      (subst (λ (xss : List (List Literal)). GoesOn (cases_of more (drop (f.place + 1) (clause_in f.cases)) ++ others) steps xss rest) to (closed more others (among_more cut (behind.0 ∷ []))))

  -- the negation of the literal is assumed, before the next case
  module _ (more : List Literal) (n : Literal) (noted : more ≡ with_literal cut n) where
    pub next_stack : IsStack 0 frames (length more)
    next_stack = IsStack-higher 0 (length cut) (length more) frames cut_stack (subst (λ (xs : List Literal). length cut ≤ length xs) (sym noted) (length_with cut n (is_assumed cut n)))

    pub next_cases : (l : Literal) (next : ℕ) (steps rest : List Step) (now : List (List Literal)) → slice_get (clause_in f.cases) f.place ≡ Some l → n ≡ negation_of l → ClosesCases cut (clause_in f.cases) (f.place + 1) next steps rest
        → AreAlike now (cases_of more (drop next (clause_in f.cases)) ++ waiting frames more) → GoesOn (waiting whole assumed) steps now rest
    next_cases l next steps rest now at is closed h =
        let later : List Literal = drop next (clause_in f.cases) in
        let alike : IsAlike more (cut ++ negation_of l ∷ []) =
        subst (λ (m : Literal). IsAlike more (cut ++ m ∷ [])) is (subst (λ (xs : List Literal). IsAlike xs (cut ++ n ∷ [])) (sym noted) (with_literal_alike cut n)) in
        let below : waiting frames more ≡ waiting frames cut = ap (waiting frames) noted ∙ waiting-with 0 frames cut n (is_assumed cut n) cut_stack in
        let here : AreAlike (cases_of more later ++ waiting frames more) (cases_of (cut ++ negation_of l ∷ []) later ++ waiting frames more) =
        AreAlike-append (cases_of more later) (cases_of (cut ++ negation_of l ∷ []) later) (waiting frames more) (waiting frames more) (cases_alike more (cut ++ negation_of l ∷ []) later alike) (AreAlike-itself (waiting frames more)) in
        let there : AreAlike now (cases_of (cut ++ negation_of l ∷ []) later ++ waiting frames cut) =
        subst (λ (xss : List (List Literal)). AreAlike now (cases_of (cut ++ negation_of l ∷ []) later ++ xss)) below (AreAlike-trans now (cases_of more later ++ waiting frames more) (cases_of (cut ++ negation_of l ∷ []) later ++ waiting frames more) h here) in
        let from : cases_of (cut ++ negation_of l ∷ []) (drop (f.place + 1) (clause_in f.cases)) ++ waiting frames cut ≡ waiting whole assumed =
        ap (λ (c : List Literal). drop 1 (cases_of cut c) ++ waiting frames cut) (sym (drop_at (clause_in f.cases) f.place l at)) ∙ sym whole_waiting in
        subst (λ (xss : List (List Literal)). GoesOn xss steps now rest) from
        (goes_alike _ _ now steps rest (closed (cut ++ negation_of l ∷ []) (waiting frames cut) (among_more cut (negation_of l ∷ []))) there)
