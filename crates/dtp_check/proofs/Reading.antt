-- What is read of the script's part is what stands there.
use Rattle.std.proofs.Common.{refl, sym, ap, subst, ◌∙◌, ◌≡◌, ◌+◌, ℕ, List, [], ◌∷◌, ◌++◌, append_assoc, Bool, true, false}
use Rattle.smt_sexpr.specs.Tree.{Sexpr}
use Rattle.smt_sexpr.specs.Commands.{ended}
use Rattle.smt_sexpr.specs.declared.error.SexprRefusal.{SexprRefusal}
use Rattle.smt_sexpr.specs.Laws.{OneOutcome}
use Rattle.smt_sexpr.specs.Reading.{Spells, expression, finished, refused, Outcomes}
use Rattle.cert_text.specs.declared.entry.FileEntry.{FileEntry}
use Rattle.kept_lemmas.specs.Entries.{Placed}
use Rattle.cert_text.specs.Form.{header_sexpr}
use Rattle.cert_text.specs.Laws.{OneHeader}
use Rattle.smt_answer.specs.declared.kind.Kind.{Kind}
use Rattle.smt_answer.specs.Kinds.{kind_of_unreadable}
use Rattle.smt_script.specs.Commands.{is_exit}
use Rattle.smt_script.specs.code.Kept.{Kept}
use Rattle.script_walk.specs.Course.{Place, start_with, course}
use Rattle.script_walk.specs.code.Events.{IsStart}
use Rattle.script_walk.specs.declared.walk.Walk.{Walk}
use Rattle.script_walk.specs.code.Standing.{Stands}
use Rattle.dtp_check.specs.declared.script_part.PartEnd.{PartEnd}
use Rattle.dtp_check.specs.declared.script_part.PartEnd.TheVariants as part
use Rattle.dtp_check.specs.declared.judge.Progress.{Progress}
use Rattle.dtp_check.specs.declared.judge.Progress.TheVariants.{Going, Judged}
use Rattle.dtp_check.specs.declared.judgement.Judgement.{Judgement}
use Rattle.cert_read.specs.Certificates.{CertificateOutcome}
use Rattle.cert_read.specs.Laws.{OneCertificate, OneRest}
use Rattle.cert_read.specs.code.Entries.{EntriesFrom}
use Rattle.cert_read.proofs.ReadOn.{read_none, read_more}
use Rattle.dtp_check.specs.Judged.{CertificateBehind, judged_with, JudgedPart, EndsPart, IsApart, ExitEnds, FollowsExit, ScriptPart, told_by, surplus_of, turns_with}
use Rattle.dtp_check.specs.Laws.{OneJudgement}
use Rattle.dtp_check.specs.code.Judging.{IsJudging}
use Rattle.dtp_check.specs.code.Parts.{IsReadable}
use Rattle.dtp_check.specs.declared.earlier.Earlier.{Earlier}
use Rattle.dtp_check.specs.code.Earlier.{Holds}
use Rattle.dtp_check.specs.code.Turns.{Leads, ComesTo, IsSoOfAll, StandsAt, with_left, GoesTo, IsJudgedTurn, ScriptComesTo}
use Rattle.dtp_check.proofs.Entries.{of_all, so_also, so_behind}
use Rattle.dtp_check.proofs.Judging.{course_none, comes_over}

-- the command that was read is the script's next
pub record IsMore (bytes : List ℕ) (after : ℕ) (x : Sexpr) (rest : List Sexpr) (end : PartEnd) (behind : ℕ) : Type 0 where
  pub others : List Sexpr
  pub is : rest ≡ x ∷ others
  pub follows : FollowsExit (is_exit x) (ExitEnds after others end behind) (ScriptPart bytes after others end behind)

-- ---- the loop

module _ {K : Type 0} (leads : Leads K) (bytes : List ℕ) (start : EntriesFrom) (first : K) where
  pub judging_starts : (w : Walk) (earlier : Earlier) → start.count ≡ 0 → Holds earlier [] → IsStart w → IsJudging leads bytes start first w.lexer.place w.number start w.state earlier first
  judging_starts w earlier none held h =
      subst (λ (at : ℕ). IsJudging leads bytes start first at w.number start w.state earlier first) (sym h.place) (record {
        place = start_with [];
        before = [];
        taken = [];
        takes = read_none start;
        there = record { numbered = sym h.number; stands = h.stands; held = held; count = sym none };
        left = λ xs end behind part_of r. record { rest = xs; stands_there = part_of; gives = λ left judgement last c. c };
      })

-- reading leaves what the commands led to
pub stands_as : (used : ℕ) (earlier : Earlier) (place : Place FileEntry) (before : List Placed) (v w : Walk) → w.number ≡ v.number → w.state ≡ v.state
    → StandsAt v.number used v.state earlier place before → StandsAt w.number used w.state earlier place before
stands_as used earlier place before v w number state h = record { numbered = h.numbered ∙ sym number; stands = subst (λ (kept : Kept). Stands kept place.state) (sym state) h.stands; held = h.held; count = h.count }

-- where the script goes on
pub goes_to : {K : Type 0} (leads : Leads K) (first next : K) (place : Place FileEntry) (before : List Placed) (old new : EntriesFrom) (x : Sexpr) (number : ℕ) (kept : Kept) (later : Earlier) (progress : Progress) → progress ≡ Going
    → IsJudgedTurn leads first next place before old new x number kept later progress → GoesTo leads first next place before old new x number kept later
goes_to leads first next place before old new x number kept later progress is j = subst (λ (t : Progress). IsJudgedTurn leads first next place before old new x number kept later t) is j

module _ (one : OneOutcome) where
  pub same_sexpr : (bytes : List ℕ) (place : ℕ) (x y : Sexpr) (m n : ℕ) → Spells bytes place x m → Spells bytes place y n → (x ≡ y) × (m ≡ n)
  same_sexpr bytes place x y m n h k =
      let w = one bytes place (expression x) (expression y) m n h k in
      let first = w.0 in
      let same : x ≡ y = cc in
      (same, w.1)

  pub not_finished : (bytes : List ℕ) (place : ℕ) (x : Sexpr) (m n : ℕ) → Spells bytes place x m → Outcomes bytes place finished n → ⊥
  not_finished bytes place x m n h k = let e = (one bytes place (expression x) finished m n h k).0 in absurd cc

  not_refused : (bytes : List ℕ) (place : ℕ) (x : Sexpr) (why : SexprRefusal) (m n : ℕ) → Spells bytes place x m → Outcomes bytes place (refused why) n → ⊥
  not_refused bytes place x why m n h k = let e = (one bytes place (expression x) (refused why) m n h k).0 in absurd cc

  -- at a command the script doesn't end
  pub not_ended : (bytes : List ℕ) (place : ℕ) (x : Sexpr) (m : ℕ) (end : PartEnd) (behind : ℕ) → Spells bytes place x m → IsApart x → EndsPart bytes place end behind → ⊥
  not_ended bytes place x m part.Exit behind h apart e = absurd e
  not_ended bytes place x m (part.Header v) behind h apart e = apart v (same_sexpr bytes place x (header_sexpr v) m behind h e).0
  not_ended bytes place x m part.End behind h apart e = not_finished bytes place x m behind h e
  not_ended bytes place x m (part.Unread kind) behind h apart (why, e, is) = not_refused bytes place x why m behind h e

  pub part_is_more : (bytes : List ℕ) (place after : ℕ) (x : Sexpr) (rest : List Sexpr) (end : PartEnd) (behind : ℕ) → ScriptPart bytes place rest end behind → Spells bytes place x after → IsApart x → IsMore bytes after x rest end behind
  unfolding ScriptPart
  part_is_more bytes place after x [] end behind h spells apart = absurd (not_ended bytes place x after end behind spells apart h)
  part_is_more bytes place after x (y ∷ ys) end behind (mid, spells_y, apart_y, follows) spells apart =
      let same = same_sexpr bytes place y x mid after spells_y spells in
      record {
        others = ys;
        is = ap (λ (z : Sexpr). z ∷ ys) same.0;
        follows = subst (λ (z : Sexpr). FollowsExit (is_exit z) (ExitEnds after ys end behind) (ScriptPart bytes after ys end behind)) same.0
            (subst (λ (m : ℕ). FollowsExit (is_exit y) (ExitEnds m ys end behind) (ScriptPart bytes m ys end behind)) same.1 follows);
      }

  pub part_is_over : (bytes : List ℕ) (place after : ℕ) (rest : List Sexpr) (end found : PartEnd) (behind : ℕ) → ScriptPart bytes place rest end behind → EndsPart bytes place found after → rest ≡ []
  unfolding ScriptPart
  part_is_over bytes place after [] end found behind h e = refl
  part_is_over bytes place after (y ∷ ys) end found behind (mid, spells_y, apart_y, follows) e = absurd (not_ended bytes place y mid found after spells_y apart_y e)

  readable_end : (bytes : List ℕ) (place after : ℕ) (end : PartEnd) (kind : Kind) (behind : ℕ) → EndsPart bytes place end behind → IsReadable end → EndsPart bytes place (part.Unread kind) after → ⊥
  readable_end bytes place after part.Exit kind behind h r e = absurd h
  readable_end bytes place after (part.Header v) kind behind h r (why, e, is) = not_refused bytes place (header_sexpr v) why behind after h e
  readable_end bytes place after part.End kind behind h r (why, e, is) = let w = (one bytes place finished (refused why) behind after h e).0 in absurd cc
  readable_end bytes place after (part.Unread other) kind behind h r e = absurd r

  -- a script that can be read isn't refused by the reader
  pub part_is_readable : (bytes : List ℕ) (place after : ℕ) (rest : List Sexpr) (end : PartEnd) (kind : Kind) (behind : ℕ) → ScriptPart bytes place rest end behind → IsReadable end → EndsPart bytes place (part.Unread kind) after → ⊥
  unfolding ScriptPart
  part_is_readable bytes place after [] end kind behind h r e = readable_end bytes place after end kind behind h r e
  part_is_readable bytes place after (y ∷ ys) end kind behind (mid, spells_y, apart_y, follows) r e = not_ended bytes place y mid (part.Unread kind) after spells_y apart_y e

  -- ---- one judgement

  same_end : OneHeader → (bytes : List ℕ) (place : ℕ) (e f : PartEnd) (m n : ℕ) → EndsPart bytes place e m → EndsPart bytes place f n → (e ≡ f) × (m ≡ n)
  same_end headers bytes place part.Exit f m n h k = absurd h
  same_end headers bytes place (part.Header v) part.Exit m n h k = absurd k
  same_end headers bytes place (part.Header v) (part.Header w) m n h k =
      let same = same_sexpr bytes place (header_sexpr v) (header_sexpr w) m n h k in
      (ap part.Header (headers v w same.0), same.1)
  same_end headers bytes place (part.Header v) part.End m n h k = absurd (not_finished bytes place (header_sexpr v) m n h k)
  same_end headers bytes place (part.Header v) (part.Unread kind) m n h (why, k, is) = absurd (not_refused bytes place (header_sexpr v) why m n h k)
  same_end headers bytes place part.End part.Exit m n h k = absurd k
  same_end headers bytes place part.End (part.Header v) m n h k = absurd (not_finished bytes place (header_sexpr v) n m k h)
  same_end headers bytes place part.End part.End m n h k = (refl, (one bytes place finished finished m n h k).1)
  same_end headers bytes place part.End (part.Unread kind) m n h (why, k, is) = let e = (one bytes place finished (refused why) m n h k).0 in absurd cc
  same_end headers bytes place (part.Unread kind) part.Exit m n h k = absurd k
  same_end headers bytes place (part.Unread kind) (part.Header v) m n (why, h, is) k = absurd (not_refused bytes place (header_sexpr v) why n m k h)
  same_end headers bytes place (part.Unread kind) part.End m n (why, h, is) k = let e = (one bytes place (refused why) finished m n h k).0 in absurd cc
  same_end headers bytes place (part.Unread kind) (part.Unread other) m n (why, h, is) (how, k, too) =
      let w = one bytes place (refused why) (refused how) m n h k in
      let first = w.0 in
      let same : why ≡ how = cc in
      (ap part.Unread (sym is ∙ ap kind_of_unreadable same ∙ too), w.1)

  pub record IsSame (xs ys : List Sexpr) (e f : PartEnd) (m n : ℕ) : Type 0 where
    pub commands : xs ≡ ys
    pub ends : e ≡ f
    pub behind : m ≡ n

  same_behind : (bytes : List ℕ) (x : Sexpr) (mid : ℕ) (b : Bool) (xs ys : List Sexpr) (e f : PartEnd) (m n : ℕ) → FollowsExit b (ExitEnds mid xs e m) (ScriptPart bytes mid xs e m) → FollowsExit b (ExitEnds mid ys f n) (ScriptPart bytes mid ys f n)
      → (ScriptPart bytes mid xs e m → ScriptPart bytes mid ys f n → IsSame xs ys e f m n) → IsSame xs ys e f m n
  same_behind bytes x mid true xs ys e f m n h k rest = record { commands = h.0 ∙ sym k.0; ends = h.1 ∙ sym k.1; behind = sym h.2 ∙ k.2 }
  same_behind bytes x mid false xs ys e f m n h k rest = rest h k

  pub same_part : OneHeader → (bytes : List ℕ) (place : ℕ) (xs ys : List Sexpr) (e f : PartEnd) (m n : ℕ) → ScriptPart bytes place xs e m → ScriptPart bytes place ys f n → IsSame xs ys e f m n
  unfolding ScriptPart
  same_part headers bytes place [] [] e f m n h k = let w = same_end headers bytes place e f m n h k in record { commands = refl; ends = w.0; behind = w.1 }
  same_part headers bytes place [] (y ∷ ys) e f m n h (mid, spells, apart, follows) = absurd (not_ended bytes place y mid e m spells apart h)
  same_part headers bytes place (x ∷ xs) ys e f m n (mid, spells, apart, follows) k =
      let other = part_is_more bytes place mid x ys f n k spells apart in
      let same = same_behind bytes x mid (is_exit x) xs other.others e f m n follows other.follows (λ a b. same_part headers bytes mid xs other.others e f m n a b) in
      record { commands = ap (λ (zs : List Sexpr). x ∷ zs) same.commands ∙ sym other.is; ends = same.ends; behind = same.behind }

  module _ (one_read : OneCertificate) (one_rest : OneRest) where
    same_certificate : (bytes : List ℕ) (end : PartEnd) (behind : ℕ) (o p : CertificateOutcome) → CertificateBehind bytes end behind o → CertificateBehind bytes end behind p → o ≡ p
    same_certificate bytes part.Exit behind o p h k = one_read bytes behind o p h k
    same_certificate bytes (part.Header v) behind o p h k = one_rest v bytes behind o p h k
    same_certificate bytes part.End behind o p h k = h ∙ sym k
    same_certificate bytes (part.Unread kind) behind o p h k = absurd h

    same_judgement : (bytes : List ℕ) (xs : List Sexpr) (end : PartEnd) (behind : ℕ) (i j : Judgement) → JudgedPart bytes xs end behind i → JudgedPart bytes xs end behind j → i ≡ j
    same_judgement bytes xs part.Exit behind i j h k = h.2 ∙ ap (judged_with xs) (same_certificate bytes part.Exit behind h.0 k.0 h.1 k.1) ∙ sym k.2
    same_judgement bytes xs (part.Header v) behind i j h k = h.2 ∙ ap (judged_with xs) (same_certificate bytes (part.Header v) behind h.0 k.0 h.1 k.1) ∙ sym k.2
    same_judgement bytes xs part.End behind i j h k = h.2 ∙ ap (judged_with xs) (same_certificate bytes part.End behind h.0 k.0 h.1 k.1) ∙ sym k.2
    same_judgement bytes xs (part.Unread kind) behind i j h k = h ∙ sym k

    pub judgement_is_one : OneHeader → OneJudgement
    judgement_is_one headers bytes i j h k =
        let same = same_part headers bytes 0 h.commands k.commands h.end k.end h.behind k.behind h.script k.script in
        let first : JudgedPart bytes k.commands h.end h.behind i = subst (λ (xs : List Sexpr). JudgedPart bytes xs h.end h.behind i) same.commands h.judged_part in
        let second : JudgedPart bytes k.commands k.end h.behind i = subst (λ (e : PartEnd). JudgedPart bytes k.commands e h.behind i) same.ends first in
        let third : JudgedPart bytes k.commands k.end k.behind i = subst (λ (b : ℕ). JudgedPart bytes k.commands k.end b i) same.behind second in
        same_judgement bytes k.commands k.end k.behind i j third k.judged_part

  -- ---- a turn of the loop

  module _ {K : Type 0} (leads : Leads K) (bytes : List ℕ) (start : EntriesFrom) (first : K) where
    module _ (place number : ℕ) (here : EntriesFrom) (kept : Kept) (earlier : Earlier) (now : K) (h : IsJudging leads bytes start first place number here kept earlier now) where
      -- what is left comes to
      left_comes : (left : List FileEntry) (rest others : List Sexpr) (judgement : Judgement) (last : K) → rest ≡ others → ComesTo leads h.before now (course told_by (with_left h.place left) others ended) judgement last → ComesTo leads h.before now (course told_by (with_left h.place left) rest ended) judgement last
      left_comes left rest others judgement last e c = subst (λ (ys : List Sexpr). ComesTo leads h.before now (course told_by (with_left h.place left) ys ended) judgement last) (sym e) c

      pub judging_goes_on : (after : ℕ) (x : Sexpr) (more : ℕ) (there : EntriesFrom) (new : Kept) (later : Earlier) (next : K) → Spells bytes place x after → IsApart x → GoesTo leads now next h.place h.before here there x more new later → IsJudging leads bytes start first after more there new later next
      judging_goes_on after x more there new later next spells apart w = record {
        place = w.behind;
        before = w.placed;
        taken = h.taken ++ w.taken;
        takes = read_more start here h.taken h.takes there w.taken w.takes;
        there = w.there;
        left = λ xs end behind part_of readable. (
            let l = h.left xs end behind part_of readable in
            let m = part_is_more bytes place after x l.rest end behind l.stands_there spells apart in
            record {
              rest = m.others;
              stands_there = subst (λ (b : Bool). FollowsExit b (ExitEnds after m.others end behind) (ScriptPart bytes after m.others end behind)) w.goes_on m.follows;
              gives = λ left judgement last c.
                  subst (λ (all : List FileEntry). ComesTo leads [] first (turns_with all xs) judgement last) (sym (append_assoc h.taken w.taken left))
                  (l.gives (w.taken ++ left) judgement last (left_comes (w.taken ++ left) l.rest (x ∷ m.others) judgement last m.is (w.gives left m.others judgement last c)));
            });
      }

      module _ (there : EntriesFrom) (judgement : Judgement) (last : K) where
        -- what all entries come to, by those that are left
        whole : (Says : List FileEntry → Type 0) → ((all : List FileEntry) → Says all → ScriptComesTo leads first last bytes judgement (h.taken ++ all)) → IsSoOfAll here there Says → IsSoOfAll start there (ScriptComesTo leads first last bytes judgement)
        whole Says comes so =
            so_behind start here there h.taken (ScriptComesTo leads first last bytes judgement) h.takes
            (so_also here there Says (λ all. ScriptComesTo leads first last bytes judgement (h.taken ++ all)) comes so)

        pub judged_here : (after : ℕ) (x : Sexpr) (more : ℕ) (new : Kept) (later : Earlier) (progress : Progress) → Spells bytes place x after → IsApart x → progress ≡ Judged judgement → IsJudgedTurn leads now last h.place h.before here there x more new later progress
            → IsSoOfAll start there (ScriptComesTo leads first last bytes judgement)
        judged_here after x more new later progress spells apart is j =
            let w : IsJudgedTurn leads now last h.place h.before here there x more new later (Judged judgement) = subst (λ (t : Progress). IsJudgedTurn leads now last h.place h.before here there x more new later t) is j in
            whole (λ all. (xs : List Sexpr) → ComesTo leads h.before now (course told_by (with_left h.place all) (x ∷ xs) ended) judgement last) (λ all comes xs end behind part_of readable.
            let l = h.left xs end behind part_of readable in
            let m = part_is_more bytes place after x l.rest end behind l.stands_there spells apart in
            l.gives all judgement last (left_comes all l.rest (x ∷ m.others) judgement last m.is (comes m.others))) w

      pub judged_over : (there : EntriesFrom) (after : ℕ) (found : PartEnd) (judgement : Judgement) → EndsPart bytes place found after → IsSoOfAll here there (λ all. judgement ≡ surplus_of (here.count + 1) all)
          → IsSoOfAll start there (ScriptComesTo leads first now bytes judgement)
      judged_over there after found judgement e so =
          whole there judgement now (λ all. judgement ≡ surplus_of (here.count + 1) all) (λ all is xs end behind part_of readable.
          let l = h.left xs end behind part_of readable in
          let over = part_is_over bytes place after l.rest end found behind l.stands_there e in
          l.gives all judgement now (left_comes all l.rest [] judgement now over (comes_over leads h.before now here number kept earlier h.place h.there (course told_by (with_left h.place all) [] ended) h.place.state all judgement (course_none (with_left h.place all)) is))) so

      pub judged_unread : (after : ℕ) (kind : Kind) (judgement : Judgement) → EndsPart bytes place (part.Unread kind) after → IsSoOfAll start here (ScriptComesTo leads first now bytes judgement)
      judged_unread after kind judgement e =
          whole here judgement now (λ all. Unit {0}) (λ all u xs end behind part_of readable.
          let l = h.left xs end behind part_of readable in
          absurd (part_is_readable bytes place after l.rest end kind behind l.stands_there readable e)) (of_all here (λ all. Unit {0}) (λ all. tt))
