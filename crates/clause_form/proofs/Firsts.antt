-- The first root that asserts a node, and the first that denies it, from the last node down.
use Rattle.std.proofs.Common.{refl, sym, ap, subst, arith, inl, inr, ◌∙◌, ◌≡◌, ◌<◌, ◌≤◌, ◌+◌, ◌-◌, ℕ, zero, suc, List, [], ◌∷◌, ◌++◌, length, get_or, set, replicate, Bool, true, false, ◌||◌, ◌&&◌, nat_eq}
use Rattle.std.specs.Prelude.{nat_lt, if◌then◌else◌, Option, Some, None, slice_index}
use Rattle.std.proofs.lemmas.Bool.{cases_lt}
use Rattle.std.proofs.lemmas.Bool.Decides.{nat_tests}
use Rattle.std.proofs.lemmas.List.{length-replicate, get_or-replicate}
use Rattle.stn_core.specs.declared.literal.Literal.{Literal}
use Rattle.idl_node.specs.declared.node.Node.{Node}
use Rattle.idl_node.specs.Nodes.{NodeValue, always, atom, denial, conjunction, disjunction, shown}
use Rattle.clause_form.specs.Polarity.{Polarity, is_among, node_at, spread_asserted, spread_denied, spread, polarity_below, polarity_of, inner_nodes}
use Rattle.clause_form.specs.code.Marking.{AreMarks}
use Rattle.clause_form.specs.Sources.{asserted_count, denied_count, inner_clause_count, times_when, node_sources, sources_below, sources_of, asserts, denies, first_root}
use Rattle.clause_form.specs.code.FirstRoots.{IsFirst, AreFirst, lowered, Lowers, AreFirstPolarities, alone, number_before}
use Rattle.clause_form.proofs.Among.{among_append}
use Rattle.clause_form.proofs.Passes.{shown_count}

-- ---- first numbers

pub first_same : (p q : ℕ → Bool) (n v : ℕ) → IsFirst p n v → ((r : ℕ) → r < n → q r ≡ p r) → IsFirst q n v
first_same p q n v h e = record {
  before = λ r lt in_. e r in_ ∙ h.before r lt in_;
  there = λ lt. e v lt ∙ h.there lt;
}

pub first_none : (n : ℕ) → IsFirst (λ r. false) n n
first_none n = record { before = λ r lt in_. refl; there = λ lt. absurd (omega arith) }

or_true : (b : Bool) → (b || true) ≡ true
or_true true = refl
or_true false = refl

-- the less of two
lowered_less : (p q : ℕ → Bool) (n a b : ℕ) (t : Bool) → nat_lt a b ≡ t → IsFirst q n a → IsFirst p n b → IsFirst (λ r. q r || p r) n (if t then a else b)
lowered_less p q n a b true e f g =
    let less : a < b = grind (arith, nat_tests) in
    record {
      before = λ r lt in_. ap (λ (x : Bool). x || p r) (f.before r lt in_) ∙ g.before r (omega arith) in_;
      there = λ lt. ap (λ (x : Bool). x || p a) (f.there lt);
    }
lowered_less p q n a b false e f g =
    let more : b ≤ a = grind (arith, nat_tests) in
    record {
      before = λ r lt in_. ap (λ (x : Bool). x || p r) (f.before r (omega arith) in_) ∙ g.before r lt in_;
      there = λ lt. ap (λ (x : Bool). q b || x) (g.there lt) ∙ or_true (q b);
    }

pub first_lowered : (p q : ℕ → Bool) (n a b : ℕ) (t : Bool) → IsFirst q n a → IsFirst p n b → IsFirst (λ r. (t && q r) || p r) n (lowered t a b)
first_lowered p q n a b true f g = lowered_less p q n a b (nat_lt a b) refl f g
first_lowered p q n a b false f g = g

-- ---- lists of first numbers

get_any : {X : Type 0} (xs : List X) (k : ℕ) (d e : X) → k < length xs → get_or xs k d ≡ get_or xs k e
get_any [] k d e lt = absurd (omega arith)
get_any (x ∷ xs) zero d e lt = refl
get_any (x ∷ xs) (suc k) d e lt = get_any xs k d e (omega arith)

-- other sets, among which are as many
pub firsts_same : (nodes n : ℕ) (firsts : List ℕ) (among other : ℕ → List ℕ) → AreFirst nodes n firsts among → ((k r : ℕ) → r < n → is_among k (other r) ≡ is_among k (among r)) → AreFirst nodes n firsts other
firsts_same nodes n firsts among other h e = record {
  count_is = h.count_is;
  each = λ k lt. first_same (λ r. is_among k (among r)) (λ r. is_among k (other r)) n (get_or firsts k n) (h.each k lt) (λ r in_. e k r in_);
}

-- the nodes that pass the test are lowered to a first number by another test
pub firsts_lowered : (nodes n a : ℕ) (old new : List ℕ) (test : ℕ → Bool) (by : ℕ → Bool) (among other : ℕ → List ℕ) → AreFirst nodes n old among → IsFirst by n a → length new ≡ length old → Lowers test a old new
    → ((k r : ℕ) → r < n → is_among k (other r) ≡ ((test k && by r) || is_among k (among r))) → AreFirst nodes n new other
firsts_lowered nodes n a old new test by among other h f same lowers e = record {
  count_is = same ∙ h.count_is;
  each = λ k lt. (
      let in_ : k < length old = (let c = h.count_is in omega arith) in
      let one : IsFirst (λ r. (test k && by r) || is_among k (among r)) n (lowered (test k) a (get_or old k n)) = first_lowered (λ r. is_among k (among r)) by n a (get_or old k n) (test k) f (h.each k lt) in
      first_same (λ r. (test k && by r) || is_among k (among r)) (λ r. is_among k (other r)) n (get_or new k n) (subst (IsFirst (λ r. (test k && by r) || is_among k (among r)) n) (sym (lowers k n in_)) one) (λ r below. e k r below));
}

-- ---- lowering numbers, one after the other

-- what is lowered twice to the same number
twice : (a v : ℕ) (s t : Bool) → lowered t a (lowered s a v) ≡ lowered (s || t) a v
twice a v true false = refl
twice a v false t = refl
twice a v true true = again (nat_lt a v) refl
  where
    again : (b : Bool) → nat_lt a v ≡ b → lowered true a (if b then a else v) ≡ (if b then a else v)
    again true e = (let self : nat_lt a a ≡ false = grind (arith, nat_tests) in ap (λ (c : Bool). if c then a else a) self)
    again false e = ap (λ (c : Bool). if c then a else v) e

-- one number is lowered
less_is : (a v : ℕ) → a < v → lowered true a v ≡ a
less_is a v lt = (let t : nat_lt a v ≡ true = grind (arith, nat_tests) in ap (λ (c : Bool). if c then a else v) t)

more_is : (a v : ℕ) → v ≤ a → lowered true a v ≡ v
more_is a v le = (let t : nat_lt a v ≡ false = grind (arith, nat_tests) in ap (λ (c : Bool). if c then a else v) t)

-- whether two numbers are the same
one_more : (i n : ℕ) (b : Bool) → nat_eq i n ≡ b → nat_eq i n ≡ nat_eq (suc i) (suc n)
one_more i n true e = (let same : nat_eq (suc i) (suc n) ≡ true = grind (arith, nat_tests) in e ∙ sym same)
one_more i n false e = (let other : nat_eq (suc i) (suc n) ≡ false = grind (arith, nat_tests) in e ∙ sym other)

first_other : (n a v : ℕ) → v ≡ lowered (nat_eq 0 (suc n)) a v
first_other n a v = (let other : nat_eq 0 (suc n) ≡ false = grind (arith, nat_tests) in ap (λ (b : Bool). lowered b a v) (sym other))

later_other : (k a v : ℕ) → v ≡ lowered (nat_eq (suc k) 0) a v
later_other k a v = (let other : nat_eq (suc k) 0 ≡ false = grind (arith, nat_tests) in ap (λ (b : Bool). lowered b a v) (sym other))

first_same_one : (a v : ℕ) → lowered true a v ≡ lowered (nat_eq 0 0) a v
first_same_one a v = (let same : nat_eq 0 0 ≡ true = grind (arith, nat_tests) in ap (λ (b : Bool). lowered b a v) (sym same))

pub lowers_one : (xs : List ℕ) (n a e : ℕ) → n < length xs → a < get_or xs n e → Lowers (λ k. nat_eq k n) a xs (set xs n a)
lowers_one [] n a e lt less k d in_ = absurd (omega arith)
lowers_one (x ∷ xs) zero a e lt less zero d in_ = sym (less_is a x less) ∙ first_same_one a x
lowers_one (x ∷ xs) zero a e lt less (suc k) d in_ = later_other k a (get_or xs k d)
lowers_one (x ∷ xs) (suc n) a e lt less zero d in_ = first_other n a x
lowers_one (x ∷ xs) (suc n) a e lt less (suc k) d in_ = lowers_one xs n a e (omega arith) less k d (omega arith) ∙ ap (λ (b : Bool). lowered b a (get_or xs k d)) (one_more k n (nat_eq k n) refl)

pub lowers_less : (xs : List ℕ) (n a e : ℕ) → n < length xs → get_or xs n e ≤ a → Lowers (λ k. nat_eq k n) a xs xs
lowers_less [] n a e lt le k d in_ = absurd (omega arith)
lowers_less (x ∷ xs) zero a e lt le zero d in_ = sym (more_is a x le) ∙ first_same_one a x
lowers_less (x ∷ xs) zero a e lt le (suc k) d in_ = later_other k a (get_or xs k d)
lowers_less (x ∷ xs) (suc n) a e lt le zero d in_ = first_other n a x
lowers_less (x ∷ xs) (suc n) a e lt le (suc k) d in_ = lowers_less xs n a e (omega arith) le k d (omega arith) ∙ ap (λ (b : Bool). lowered b a (get_or xs k d)) (one_more k n (nat_eq k n) refl)

-- ---- what one node adds, by its kind

and_true : (b : Bool) → b ≡ (b && true)
and_true true = refl
and_true false = refl

and_false : (b x : Bool) → x ≡ ((b && false) || x)
and_false true x = refl
and_false false x = refl

-- both flags of the node
module _ (k m : ℕ) (ms : List ℕ) where
  and_asserted : (a d : Bool) (p : Polarity) → is_among k (spread_denied d (conjunction ms) (spread_asserted a (conjunction ms) p)).asserted ≡ ((is_among k ms && a) || is_among k p.asserted)
  and_asserted true true p = among_append k ms p.asserted ∙ ap (λ (b : Bool). b || is_among k p.asserted) (and_true (is_among k ms))
  and_asserted true false p = among_append k ms p.asserted ∙ ap (λ (b : Bool). b || is_among k p.asserted) (and_true (is_among k ms))
  and_asserted false true p = and_false (is_among k ms) (is_among k p.asserted)
  and_asserted false false p = and_false (is_among k ms) (is_among k p.asserted)

  and_denied : (a d : Bool) (p : Polarity) → is_among k (spread_denied d (conjunction ms) (spread_asserted a (conjunction ms) p)).denied ≡ is_among k p.denied
  and_denied true true p = refl
  and_denied true false p = refl
  and_denied false true p = refl
  and_denied false false p = refl

  or_asserted : (a d : Bool) (p : Polarity) → is_among k (spread_denied d (disjunction ms) (spread_asserted a (disjunction ms) p)).asserted ≡ is_among k p.asserted
  or_asserted true true p = refl
  or_asserted true false p = refl
  or_asserted false true p = refl
  or_asserted false false p = refl

  or_denied : (a d : Bool) (p : Polarity) → is_among k (spread_denied d (disjunction ms) (spread_asserted a (disjunction ms) p)).denied ≡ ((is_among k ms && d) || is_among k p.denied)
  or_denied true true p = among_append k ms p.denied ∙ ap (λ (b : Bool). b || is_among k p.denied) (and_true (is_among k ms))
  or_denied false true p = among_append k ms p.denied ∙ ap (λ (b : Bool). b || is_among k p.denied) (and_true (is_among k ms))
  or_denied true false p = and_false (is_among k ms) (is_among k p.denied)
  or_denied false false p = and_false (is_among k ms) (is_among k p.denied)

  not_asserted : (a d : Bool) (p : Polarity) → is_among k (spread_denied d (denial m) (spread_asserted a (denial m) p)).asserted ≡ ((nat_eq k m && d) || is_among k p.asserted)
  not_asserted true true p = ap (λ (b : Bool). b || is_among k p.asserted) (and_true (nat_eq k m))
  not_asserted false true p = ap (λ (b : Bool). b || is_among k p.asserted) (and_true (nat_eq k m))
  not_asserted true false p = and_false (nat_eq k m) (is_among k p.asserted)
  not_asserted false false p = and_false (nat_eq k m) (is_among k p.asserted)

  not_denied : (a d : Bool) (p : Polarity) → is_among k (spread_denied d (denial m) (spread_asserted a (denial m) p)).denied ≡ ((nat_eq k m && a) || is_among k p.denied)
  not_denied true true p = ap (λ (b : Bool). b || is_among k p.denied) (and_true (nat_eq k m))
  not_denied true false p = ap (λ (b : Bool). b || is_among k p.denied) (and_true (nat_eq k m))
  not_denied false true p = and_false (nat_eq k m) (is_among k p.denied)
  not_denied false false p = and_false (nat_eq k m) (is_among k p.denied)

module _ (nodes n number : ℕ) (asserted denied : List ℕ) (p : ℕ → Polarity) (in_ : number < nodes) (h : AreFirstPolarities nodes n asserted denied p) where
  pub by_asserted : (d : ℕ) → IsFirst (λ r. is_among number (p r).asserted) n (get_or asserted number d)
  by_asserted d = subst (IsFirst (λ r. is_among number (p r).asserted) n) (get_any asserted number n d (let c = h.asserted_are.count_is in omega arith)) (h.asserted_are.each number in_)

  pub by_denied : (d : ℕ) → IsFirst (λ r. is_among number (p r).denied) n (get_or denied number d)
  by_denied d = subst (IsFirst (λ r. is_among number (p r).denied) n) (get_any denied number n d (let c = h.denied_are.count_is in omega arith)) (h.denied_are.each number in_)

  pub spread_and : (ms new : List ℕ) (a : ℕ) → IsFirst (λ r. is_among number (p r).asserted) n a → length new ≡ length asserted → Lowers (λ k. is_among k ms) a asserted new → AreFirstPolarities nodes n new denied (λ r. spread number (conjunction ms) (p r))
  spread_and ms new a f same lowers = record {
    asserted_are = firsts_lowered nodes n a asserted new (λ k. is_among k ms) (λ r. is_among number (p r).asserted) (λ r. (p r).asserted) (λ r. (spread number (conjunction ms) (p r)).asserted) h.asserted_are f same lowers
        (λ k r below. and_asserted k 0 ms (is_among number (p r).asserted) (is_among number (p r).denied) (p r));
    denied_are = firsts_same nodes n denied (λ r. (p r).denied) (λ r. (spread number (conjunction ms) (p r)).denied) h.denied_are
        (λ k r below. and_denied k 0 ms (is_among number (p r).asserted) (is_among number (p r).denied) (p r));
  }

  pub spread_or : (ms new : List ℕ) (a : ℕ) → IsFirst (λ r. is_among number (p r).denied) n a → length new ≡ length denied → Lowers (λ k. is_among k ms) a denied new → AreFirstPolarities nodes n asserted new (λ r. spread number (disjunction ms) (p r))
  spread_or ms new a f same lowers = record {
    asserted_are = firsts_same nodes n asserted (λ r. (p r).asserted) (λ r. (spread number (disjunction ms) (p r)).asserted) h.asserted_are
        (λ k r below. or_asserted k 0 ms (is_among number (p r).asserted) (is_among number (p r).denied) (p r));
    denied_are = firsts_lowered nodes n a denied new (λ k. is_among k ms) (λ r. is_among number (p r).denied) (λ r. (p r).denied) (λ r. (spread number (disjunction ms) (p r)).denied) h.denied_are f same lowers
        (λ k r below. or_denied k 0 ms (is_among number (p r).asserted) (is_among number (p r).denied) (p r));
  }

  pub spread_not : (m : ℕ) (new_asserted new_denied : List ℕ) (a d : ℕ) → IsFirst (λ r. is_among number (p r).asserted) n a → IsFirst (λ r. is_among number (p r).denied) n d
      → length new_denied ≡ length denied → Lowers (λ k. nat_eq k m) a denied new_denied → length new_asserted ≡ length asserted → Lowers (λ k. nat_eq k m) d asserted new_asserted
      → AreFirstPolarities nodes n new_asserted new_denied (λ r. spread number (denial m) (p r))
  spread_not m new_asserted new_denied a d f g same_denied lowers_denied same_asserted lowers_asserted = record {
    asserted_are = firsts_lowered nodes n d asserted new_asserted (λ k. nat_eq k m) (λ r. is_among number (p r).denied) (λ r. (p r).asserted) (λ r. (spread number (denial m) (p r)).asserted) h.asserted_are g same_asserted lowers_asserted
        (λ k r below. not_asserted k m [] (is_among number (p r).asserted) (is_among number (p r).denied) (p r));
    denied_are = firsts_lowered nodes n a denied new_denied (λ k. nat_eq k m) (λ r. is_among number (p r).asserted) (λ r. (p r).denied) (λ r. (spread number (denial m) (p r)).denied) h.denied_are f same_denied lowers_denied
        (λ k r below. not_denied k m [] (is_among number (p r).asserted) (is_among number (p r).denied) (p r));
  }

-- ---- the roots

-- the first so many roots, each alone
abbrev pub upto : ℕ → List ℕ → ℕ → List ℕ
upto idx roots r = if nat_lt r idx then slice_index roots r ∷ [] else []

one_or_none : (k m : ℕ) (x : Bool) → is_among k (m ∷ []) ≡ ((nat_eq k m && true) || false)
one_or_none k m x = ap (λ (b : Bool). b || false) (and_true (nat_eq k m))

-- ---- the pass

-- the first numbers go on to those of each root alone
pub record IsGoing (nodes : List Node) (roots : List ℕ) (left : ℕ) (asserted denied : List ℕ) : Type 0 where
  pub polarity : ℕ → Polarity
  pub are : AreFirstPolarities (length nodes) (length roots) asserted denied polarity
  pub goes_on : (r : ℕ) → r < length roots → polarity_below left (shown nodes) (polarity r) ≡ alone (shown nodes) roots r

pub going_start : (nodes : List Node) (roots asserted denied : List ℕ) → AreFirst (length nodes) (length roots) asserted (λ r. slice_index roots r ∷ []) → AreFirst (length nodes) (length roots) denied (λ r. []) → IsGoing nodes roots (length nodes) asserted denied
unfolding polarity_of
going_start nodes roots asserted denied h k = record {
  polarity = λ r. record { asserted = slice_index roots r ∷ []; denied = [] };
  are = record { asserted_are = h; denied_are = k };
  goes_on = λ r lt. ap (λ (n : ℕ). polarity_below n (shown nodes) (record { asserted = slice_index roots r ∷ []; denied = [] })) (shown_count nodes);
}

pub going_turn : (nodes : List Node) (roots : List ℕ) (left : ℕ) (node : NodeValue) (asserted denied a d : List ℕ) → 0 < left → left ≤ length nodes → node ≡ node_at (shown nodes) (left - 1)
    → ((p : ℕ → Polarity) → AreFirstPolarities (length asserted) (length roots) asserted denied p → AreFirstPolarities (length asserted) (length roots) a d (λ r. spread (left - 1) node (p r)))
    → IsGoing nodes roots left asserted denied → IsGoing nodes roots (left - 1) a d
going_turn nodes roots left node asserted denied a d some within at turn g =
    let k : ℕ = left - 1 in
    let is : left ≡ suc k = omega arith in
    let count : length asserted ≡ length nodes = g.are.asserted_are.count_is in
    record {
      polarity = λ r. spread k node (g.polarity r);
      are = subst (λ (n : ℕ). AreFirstPolarities n (length roots) a d (λ r. spread k node (g.polarity r))) count (turn g.polarity (subst (λ (n : ℕ). AreFirstPolarities n (length roots) asserted denied g.polarity) (sym count) g.are));
      goes_on = λ r lt. ap (λ (v : NodeValue). polarity_below k (shown nodes) (spread k v (g.polarity r))) at ∙ subst (λ (n : ℕ). polarity_below n (shown nodes) (g.polarity r) ≡ alone (shown nodes) roots r) is (g.goes_on r lt);
    }

-- ---- the first root

shifted : (n base v : ℕ) → (if nat_lt (suc v) (suc n) then Some (base + suc v) else None) ≡ (if nat_lt v n then Some (suc base + v) else None)
shifted n base v = go (nat_lt v n) refl
  where
    go : (b : Bool) → nat_lt v n ≡ b → (if nat_lt (suc v) (suc n) then Some (base + suc v) else None) ≡ (if nat_lt v n then Some (suc base + v) else None)
    go true e =
        let in_ : nat_lt (suc v) (suc n) ≡ true = grind (arith, nat_tests) in
        let is : base + suc v ≡ suc base + v = omega arith in
        ap (λ (c : Bool). if c then Some (base + suc v) else None) in_ ∙ ap Some is ∙ ap (λ (c : Bool). if c then Some (suc base + v) else None) (sym e)
    go false e =
        let in_ : nat_lt (suc v) (suc n) ≡ false = grind (arith, nat_tests) in
        ap (λ (c : Bool). if c then Some (base + suc v) else None) in_ ∙ ap (λ (c : Bool). if c then Some (suc base + v) else None) (sym e)

first_is : (test : ℕ → Bool) (base : ℕ) (roots : List ℕ) (v : ℕ) → IsFirst (λ r. test (slice_index roots r)) (length roots) v → (if nat_lt v (length roots) then Some (base + v) else None) ≡ first_root test base roots
first_is test base [] v h = (let none : nat_lt v 0 ≡ false = grind (arith, nat_tests) in ap (λ (c : Bool). if c then Some (base + v) else None) none)
first_is test base (root ∷ roots) v h = go (test root) v refl h (λ w f. first_is test (suc base) roots w f)
  where
    go : (b : Bool) (v : ℕ) → test root ≡ b → IsFirst (λ r. test (slice_index (root ∷ roots) r)) (length (root ∷ roots)) v
        → ((w : ℕ) → IsFirst (λ r. test (slice_index roots r)) (length roots) w → (if nat_lt w (length roots) then Some (suc base + w) else None) ≡ first_root test (suc base) roots)
        → (if nat_lt v (length (root ∷ roots)) then Some (base + v) else None) ≡ (if test root then Some base else first_root test (suc base) roots)
    go true zero e f later =
        let in_ : nat_lt 0 (suc (length roots)) ≡ true = grind (arith, nat_tests) in
        let is : base + 0 ≡ base = omega arith in
        ap (λ (c : Bool). if c then Some (base + 0) else None) in_ ∙ ap Some is ∙ ap (λ (c : Bool). if c then Some base else first_root test (suc base) roots) (sym e)
    go true (suc v) e f later = (let no : test root ≡ false = f.before 0 (omega arith) (omega arith) in absurd (cc))
    go false zero e f later = (let yes : test root ≡ true = f.there (omega arith) in absurd (cc))
    go false (suc v) e f later =
        let rest : IsFirst (λ r. test (slice_index roots r)) (length roots) v = record { before = λ r lt in_. f.before (suc r) (omega arith) (omega arith); there = λ lt. f.there (omega arith) } in
        shifted (length roots) base v ∙ later v rest ∙ ap (λ (c : Bool). if c then Some base else first_root test (suc base) roots) (sym e)

pub number_is : (test : ℕ → Bool) (roots : List ℕ) (v : ℕ) → IsFirst (λ r. test (slice_index roots r)) (length roots) v → number_before (length roots) v ≡ first_root test 0 roots
number_is test roots v h =
    let is : v ≡ 0 + v = omega arith in
    ap (λ (w : ℕ). if nat_lt v (length roots) then Some w else None) is ∙ first_is test 0 roots v h

-- ---- the sources of the nodes, one after the other

pub flag_is : (count : ℕ) (marks : List Bool) (xs : List ℕ) (k : ℕ) (b : Bool) → AreMarks count marks xs → k < count → b ≡ get_or marks k b → b ≡ is_among k xs
flag_is count marks xs k b h lt e = e ∙ get_any marks k b false (let c = h.count_is in omega arith) ∙ h.each k lt

first_of : (count n : ℕ) (firsts : List ℕ) (among : ℕ → List ℕ) (k v : ℕ) → AreFirst count n firsts among → k < count → v ≡ get_or firsts k v → IsFirst (λ r. is_among k (among r)) n v
first_of count n firsts among k v h lt e =
    subst (IsFirst (λ r. is_among k (among r)) n) (sym (e ∙ get_any firsts k v n (let c = h.count_is in omega arith))) (h.each k lt)

pub asserting_is : (count : ℕ) (nodes : List NodeValue) (roots firsts : List ℕ) (k v : ℕ) → AreFirst count (length roots) firsts (λ r. (alone nodes roots r).asserted) → k < count → v ≡ get_or firsts k v → number_before (length roots) v ≡ first_root (asserts nodes k) 0 roots
asserting_is count nodes roots firsts k v h lt e = number_is (asserts nodes k) roots v (first_of count (length roots) firsts (λ r. (alone nodes roots r).asserted) k v h lt e)

pub denying_is : (count : ℕ) (nodes : List NodeValue) (roots firsts : List ℕ) (k v : ℕ) → AreFirst count (length roots) firsts (λ r. (alone nodes roots r).denied) → k < count → v ≡ get_or firsts k v → number_before (length roots) v ≡ first_root (denies nodes k) 0 roots
denying_is count nodes roots firsts k v h lt e = number_is (denies nodes k) roots v (first_of count (length roots) firsts (λ r. (alone nodes roots r).denied) k v h lt e)

pub next_sources : (nodes : List NodeValue) (roots : List ℕ) (p : Polarity) (inner : List ℕ) (k : ℕ) (a d i : Bool) (node : NodeValue) (by_a by_d : Option ℕ) (old new : List (Option ℕ))
    → a ≡ is_among k p.asserted → d ≡ is_among k p.denied → i ≡ is_among k inner → node ≡ node_at nodes k → by_a ≡ first_root (asserts nodes k) 0 roots → by_d ≡ first_root (denies nodes k) 0 roots
    → old ≡ sources_below nodes roots p inner k
    → new ≡ old ++ (times_when a (asserted_count node) by_a ++ (times_when d (denied_count node) by_d ++ times_when i (inner_clause_count node) None))
    → new ≡ sources_below nodes roots p inner (k + 1)
next_sources nodes roots p inner k a d i node by_a by_d old new ea ed ei en fa fd so_far e =
    let is : suc k ≡ k + 1 = omega arith in
    e
    ∙ ap (λ (b : Bool). old ++ (times_when b (asserted_count node) by_a ++ (times_when d (denied_count node) by_d ++ times_when i (inner_clause_count node) None))) ea
    ∙ ap (λ (b : Bool). old ++ (times_when (is_among k p.asserted) (asserted_count node) by_a ++ (times_when b (denied_count node) by_d ++ times_when i (inner_clause_count node) None))) ed
    ∙ ap (λ (b : Bool). old ++ (times_when (is_among k p.asserted) (asserted_count node) by_a ++ (times_when (is_among k p.denied) (denied_count node) by_d ++ times_when b (inner_clause_count node) None))) ei
    ∙ ap (λ (v : NodeValue). old ++ (times_when (is_among k p.asserted) (asserted_count v) by_a ++ (times_when (is_among k p.denied) (denied_count v) by_d ++ times_when (is_among k inner) (inner_clause_count v) None))) en
    ∙ ap (λ (s : Option ℕ). old ++ (times_when (is_among k p.asserted) (asserted_count (node_at nodes k)) s ++ (times_when (is_among k p.denied) (denied_count (node_at nodes k)) by_d ++ times_when (is_among k inner) (inner_clause_count (node_at nodes k)) None))) fa
    ∙ ap (λ (s : Option ℕ). old ++ (times_when (is_among k p.asserted) (asserted_count (node_at nodes k)) (first_root (asserts nodes k) 0 roots) ++ (times_when (is_among k p.denied) (denied_count (node_at nodes k)) s ++ times_when (is_among k inner) (inner_clause_count (node_at nodes k)) None))) fd
    ∙ ap (λ (xs : List (Option ℕ)). xs ++ node_sources nodes roots p inner k) so_far
    ∙ ap (sources_below nodes roots p inner) is

pub sources_end : (nodes : List Node) (roots : List ℕ) (k : ℕ) (items : List (Option ℕ)) → k ≡ length nodes
    → items ≡ sources_below (shown nodes) roots (polarity_of (shown nodes) roots) (inner_nodes (shown nodes) (polarity_of (shown nodes) roots)) k → items ≡ sources_of (shown nodes) roots
unfolding sources_of
sources_end nodes roots k items e h = h ∙ ap (sources_below (shown nodes) roots (polarity_of (shown nodes) roots) (inner_nodes (shown nodes) (polarity_of (shown nodes) roots))) (e ∙ shown_count nodes)
