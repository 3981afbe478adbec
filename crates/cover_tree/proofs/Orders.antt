-- Two numbers of an order change places.
use Rattle.std.proofs.Common.{arith, ◌≡◌, ◌≢◌, ℕ, ◌<◌, ◌≤◌, ◌+◌, ◌-◌, inl, inr, Bool, true, false, List, [], ◌∷◌, ◌++◌, length, get_or, set, Some, refl, sym, ap, ◌∙◌}
use Rattle.std.specs.Prelude.{slice_get, nat_lt}
use Rattle.std.proofs.lemmas.Bool.Decides.{nat_tests}
use Rattle.std.proofs.lemmas.List.{get_or-set_same, get_or-set_other, length-set, length-map, length-append, get_or_default, get_or-map, get_or_append_left, get_or-append-add, map-append}
use Rattle.std.proofs.lemmas.Option.{slice_get_within, get_or_from_slice_get, slice_get-get_or}
use Rattle.std.proofs.lemmas.Bool.{cases_Bool}
use Rattle.cover_tree.specs.code.Members.{AreInverse, IsSet, NoMember, flags, twice, order_with, place_with}
use Rattle.cover_tree.proofs.Sets.{by_eq, same_items}

length-twice : (xs : List ℕ) (i x j y : ℕ) → length (twice xs i x j y) ≡ length xs
length-twice xs i x j y = length-set (set xs i x) j y ∙ length-set xs i x

twice_second : (xs : List ℕ) (i x j y : ℕ) → j < length xs → get_or (twice xs i x j y) j 0 ≡ y
twice_second xs i x j y lt = get_or-set_same (set xs i x) j y 0 (omega (arith, length-set xs i x))

twice_first : (xs : List ℕ) (i x j y : ℕ) → i < length xs → j < length xs → (i ≡ j → x ≡ y) → get_or (twice xs i x j y) i 0 ≡ x
twice_first xs i x j y li lj same = elim (by_eq i j) [
  | inl e ↦ ap (λ (k : ℕ). get_or (twice xs i x j y) k 0) e ∙ (twice_second xs i x j y lj ∙ sym (same e))
  | inr ne ↦ get_or-set_other (set xs i x) j i y 0 ne ∙ get_or-set_same xs i x 0 li
]

twice_other : (xs : List ℕ) (i x j y k : ℕ) → k ≢ i → k ≢ j → get_or (twice xs i x j y) k 0 ≡ get_or xs k 0
twice_other xs i x j y k ni nj = get_or-set_other (set xs i x) j k y 0 nj ∙ get_or-set_other xs i k x 0 ni

-- one half of two inverse lists
abbrev pub Half : List ℕ → List ℕ → Type 0
Half order place = (k : ℕ) → k < length place → (get_or place k 0 < length place) × (get_or order (get_or place k 0) 0 ≡ k)

module _ (order place : List ℕ) (same : length order ≡ length place) (half : Half order place)
    (p q a b : ℕ) (at_p : get_or order p 0 ≡ a) (at_q : get_or order q 0 ≡ b) (at_a : get_or place a 0 ≡ p) (at_b : get_or place b 0 ≡ q)
    (lp : p < length order) (lq : q < length order) (la : a < length place) (lb : b < length place) where
  abbrev order_new : List ℕ
  order_new = twice order p b q a

  abbrev place_new : List ℕ
  place_new = twice place a q b p

  ab_pq : a ≡ b → q ≡ p
  ab_pq e = sym at_b ∙ (ap (λ (k : ℕ). get_or place k 0) (sym e) ∙ at_a)

  pq_ba : p ≡ q → b ≡ a
  pq_ba e = sym at_q ∙ (ap (λ (k : ℕ). get_or order k 0) (sym e) ∙ at_p)

  place_at_b : get_or place_new b 0 ≡ p
  place_at_b = twice_second place a q b p lb

  place_at_a : get_or place_new a 0 ≡ q
  place_at_a = twice_first place a q b p la lb ab_pq

  place_at : (k : ℕ) → k ≢ a → k ≢ b → get_or place_new k 0 ≡ get_or place k 0
  place_at k na nb = twice_other place a q b p k na nb

  order_at_p : get_or order_new p 0 ≡ b
  order_at_p = twice_first order p b q a lp lq pq_ba

  order_at_q : get_or order_new q 0 ≡ a
  order_at_q = twice_second order p b q a lq

  half_at : (k r : ℕ) → get_or place_new k 0 ≡ r → r < length order → get_or order_new r 0 ≡ k → (get_or place_new k 0 < length place_new) × (get_or order_new (get_or place_new k 0) 0 ≡ k)
  half_at k r e lt is = (omega (arith, length-twice place a q b p), ap (λ (n : ℕ). get_or order_new n 0) e ∙ is)

  swapped_half : Half order_new place_new
  swapped_half k lt =
      let n = length-twice place a q b p in
      let within : k < length place = omega arith in
      elim (by_eq k b) [
        | inl e ↦ half_at k p (ap (λ (m : ℕ). get_or place_new m 0) e ∙ place_at_b) lp (order_at_p ∙ sym e)
        | inr nb ↦ elim (by_eq k a) [
          | inl e ↦ half_at k q (ap (λ (m : ℕ). get_or place_new m 0) e ∙ place_at_a) lq (order_at_q ∙ sym e)
          | inr na ↦
              (let old = half k within in
              let not_p : get_or place k 0 ≢ p = λ (e : get_or place k 0 ≡ p). na (sym old.1 ∙ (ap (λ (m : ℕ). get_or order m 0) e ∙ at_p)) in
              let not_q : get_or place k 0 ≢ q = λ (e : get_or place k 0 ≡ q). nb (sym old.1 ∙ (ap (λ (m : ℕ). get_or order m 0) e ∙ at_q)) in
              half_at k (get_or place k 0) (place_at k na nb) (omega (arith, old.0)) (twice_other order p b q a (get_or place k 0) not_p not_q ∙ old.1))
        ]
      ]

pub swapped : (order place : List ℕ) (p q : ℕ) → AreInverse order place → p < length order → q < length order → AreInverse (twice order p (get_or order q 0) q (get_or order p 0)) (twice place (get_or order p 0) q (get_or order q 0) p)
swapped order place p q inv lp lq =
    let a = get_or order p 0 in
    let b = get_or order q 0 in
    let same = inv.same in
    let hp = inv.ordered p lp in
    let hq = inv.ordered q lq in
    let la : a < length place = omega (arith, hp.0) in
    let lb : b < length place = omega (arith, hq.0) in
    record {
      same = omega (arith, length-twice order p b q a, length-twice place a q b p);
      placed = swapped_half order place same inv.placed p q a b refl refl hp.1 hq.1 lp lq la lb;
      ordered = swapped_half place order (sym same) inv.ordered a b p q hp.1 hq.1 refl refl la lb lp lq;
    }

-- one more number, behind the others
pushed_half : (order place : List ℕ) (n : ℕ) → length order ≡ n → length place ≡ n → Half order place → Half (order ++ n ∷ []) (place ++ n ∷ [])
pushed_half order place n eo ep half k lt =
    let count = length-append place (n ∷ []) in
    elim (by_eq k n) [
      | inl e ↦
          (let here : get_or (place ++ n ∷ []) k 0 ≡ n = ap (λ (m : ℕ). get_or (place ++ n ∷ []) m 0) (omega arith) ∙ get_or-append-add place (n ∷ []) 0 0 in
          let there : get_or (order ++ n ∷ []) n 0 ≡ n = ap (λ (m : ℕ). get_or (order ++ n ∷ []) m 0) (omega arith) ∙ get_or-append-add order (n ∷ []) 0 0 in
          (omega arith, ap (λ (m : ℕ). get_or (order ++ n ∷ []) m 0) here ∙ (there ∙ sym e)))
      | inr ne ↦
          (let within : k < length place = omega arith in
          let old = half k within in
          let low : get_or place k 0 < length order = omega (arith, old.0) in
          let here : get_or (place ++ n ∷ []) k 0 ≡ get_or place k 0 = get_or_append_left place (n ∷ []) 0 k within in
          (omega (arith, old.0), ap (λ (m : ℕ). get_or (order ++ n ∷ []) m 0) here ∙ (get_or_append_left order (n ∷ []) 0 (get_or place k 0) low ∙ old.1)))
    ]

pub pushed : (order place : List ℕ) (n : ℕ) → n ≡ length place → AreInverse order place → AreInverse (order ++ n ∷ []) (place ++ n ∷ [])
pushed order place n e inv =
    let same = inv.same in
    record {
      same = omega (arith, length-append order (n ∷ []), length-append place (n ∷ []));
      placed = pushed_half order place n (omega arith) (omega arith) inv.placed;
      ordered = pushed_half place order n (omega arith) (omega arith) inv.ordered;
    }

-- the flag of a number
pub flag_at : (count : ℕ) (place : List ℕ) (k : ℕ) (b : Bool) → slice_get (flags count place) k ≡ Some b → (k < length place) × (nat_lt (get_or place k 0) count ≡ b)
flag_at count place k b e =
    let n = length-map place (λ (p : ℕ). nat_lt p count) in
    let lt = slice_get_within (flags count place) k b e in
    let within : k < length place = omega arith in
    (within, sym (get_or-map (λ (p : ℕ). nat_lt p count) place k 0 b within) ∙ get_or_from_slice_get (flags count place) k b b e)

lt_same : (a b c : ℕ) → (a < b → a < c) → (a < c → a < b) → nat_lt a b ≡ nat_lt a c
lt_same a b c h k = elim (cases_Bool (nat_lt a b)) [
  | inl t ↦ (let x : a < b = grind (arith, nat_tests) in let y = h x in grind (arith, nat_tests))
  | inr f ↦ (let x : b ≤ a = grind (arith, nat_tests) in elim (cases_Bool (nat_lt a c)) [
    | inl t ↦ (let y : a < c = grind (arith, nat_tests) in let z = k y in absurd (omega arith))
    | inr g ↦ f ∙ sym g
  ])
]

rises : (p count : ℕ) → p ≢ count → nat_lt p (count + 1) ≡ nat_lt p count
rises p count ne = lt_same p (count + 1) count (λ h. omega (arith, ne)) (λ h. omega arith)

falls : (p count : ℕ) → p ≢ count - 1 → nat_lt p (count - 1) ≡ nat_lt p count
falls p count ne = lt_same p (count - 1) count (λ h. omega arith) (λ h. omega (arith, ne))

-- after the change a number's flag is as before, but for the one that was moved
module _ (order place : List ℕ) (inv : AreInverse order place) (count now k c : ℕ) (was is : Bool)
    (lk : k < length place) (lc : c < length order)
    (moved : nat_lt c now ≡ is)
    (other : (p : ℕ) → p ≢ c → nat_lt p now ≡ nat_lt p count)
    (old_k : nat_lt (get_or place k 0) count ≡ was) (old_c : nat_lt c count ≡ was) where
  abbrev f : ℕ
  f = get_or place k 0

  abbrev b : ℕ
  b = get_or order c 0

  abbrev place_now : List ℕ
  place_now = twice place k c b f

  at_f : get_or order f 0 ≡ k
  at_f = (inv.placed k lk).1

  at_b : get_or place b 0 ≡ c
  at_b = (inv.ordered c lc).1

  lb : b < length place
  lb = let same = inv.same in omega (arith, (inv.ordered c lc).0)

  k_b : k ≡ b → c ≡ f
  k_b e = sym at_b ∙ ap (λ (m : ℕ). get_or place m 0) (sym e)

  changed_at : (j : ℕ) → j < length place → nat_lt (get_or place_now j 0) now ≡ get_or (set (flags count place) k is) j was
  changed_at j lt =
      let n = length-map place (λ (p : ℕ). nat_lt p count) in
      elim (by_eq j k) [
        | inl e ↦
            (let here : get_or place_now j 0 ≡ c = ap (λ (m : ℕ). get_or place_now m 0) e ∙ twice_first place k c b f lk lb k_b in
            let there : get_or (set (flags count place) k is) j was ≡ is = ap (λ (m : ℕ). get_or (set (flags count place) k is) m was) e ∙ get_or-set_same (flags count place) k is was (omega arith) in
            ap (λ (p : ℕ). nat_lt p now) here ∙ (moved ∙ sym there))
        | inr nk ↦
            (let there : get_or (set (flags count place) k is) j was ≡ nat_lt (get_or place j 0) count = get_or-set_other (flags count place) k j is was nk ∙ get_or-map (λ (p : ℕ). nat_lt p count) place j 0 was lt in
            elim (by_eq j b) [
              | inl e ↦
                  (let here : get_or place_now j 0 ≡ f = ap (λ (m : ℕ). get_or place_now m 0) e ∙ twice_second place k c b f lb in
                  let not_c : f ≢ c = λ (h : f ≡ c). nk (e ∙ (ap (λ (m : ℕ). get_or order m 0) (sym h) ∙ at_f)) in
                  let old : nat_lt (get_or place j 0) count ≡ was = ap (λ (m : ℕ). nat_lt (get_or place m 0) count) e ∙ (ap (λ (p : ℕ). nat_lt p count) at_b ∙ old_c) in
                  ap (λ (p : ℕ). nat_lt p now) here ∙ (other f not_c ∙ (old_k ∙ sym (there ∙ old))))
              | inr nb ↦
                  (let here : get_or place_now j 0 ≡ get_or place j 0 = twice_other place k c b f j nk nb in
                  let not_c : get_or place j 0 ≢ c = λ (h : get_or place j 0 ≡ c). nb (sym (inv.placed j lt).1 ∙ ap (λ (m : ℕ). get_or order m 0) h) in
                  ap (λ (p : ℕ). nat_lt p now) here ∙ (other (get_or place j 0) not_c ∙ sym there))
            ])
      ]

  changed_flags : flags now (twice place (get_or order f 0) c b f) ≡ set (flags count place) k is
  changed_flags =
      let renamed : flags now (twice place (get_or order f 0) c b f) ≡ flags now place_now = ap (λ (m : ℕ). flags now (twice place m c b f)) at_f in
      renamed ∙ same_items (flags now place_now) (set (flags count place) k is)
      (omega (arith, length-map place_now (λ (p : ℕ). nat_lt p now), length-twice place k c b f, length-set (flags count place) k is, length-map place (λ (p : ℕ). nat_lt p count)))
      (λ j d lt. (let within : j < length place = omega (arith, length-map place_now (λ (p : ℕ). nat_lt p now), length-twice place k c b f) in
      let within_new : j < length place_now = omega (arith, length-twice place k c b f) in
      get_or-map (λ (p : ℕ). nat_lt p now) place_now j 0 d within_new ∙ (changed_at j within ∙ get_or_default (set (flags count place) k is) j was d (omega (arith, length-set (flags count place) k is, length-map place (λ (p : ℕ). nat_lt p count))))))

pub inserted : (order place : List ℕ) (count k : ℕ) → AreInverse order place → slice_get (flags count place) k ≡ Some false → flags (count + 1) (place_with order place k count) ≡ set (flags count place) k true
inserted order place count k inv e =
    let at = flag_at count place k false e in
    let above : count ≤ get_or place k 0 = let t = at.1 in grind (arith, nat_tests) in
    let low = (inv.placed k at.0).0 in
    let same = inv.same in
    changed_flags order place inv count (count + 1) k count false true at.0 (omega arith) (grind (arith, nat_tests)) (λ p ne. rises p count ne) at.1 (grind (arith, nat_tests))

pub is_in_set : (order place : List ℕ) (count k : ℕ) → IsSet count order place → slice_get (flags count place) k ≡ Some true → (k < length place) × (1 ≤ count)
is_in_set order place count k h e =
    let at = flag_at count place k true e in
    let below : get_or place k 0 < count = let t = at.1 in grind (arith, nat_tests) in
    (at.0, omega arith)

pub removed : (order place : List ℕ) (count k : ℕ) → IsSet count order place → slice_get (flags count place) k ≡ Some true → flags (count - 1) (place_with order place k (count - 1)) ≡ set (flags count place) k false
removed order place count k h e =
    let at = flag_at count place k true e in
    let below : get_or place k 0 < count = let t = at.1 in grind (arith, nat_tests) in
    let within = h.within in
    let same = h.inverse.same in
    changed_flags order place h.inverse count (count - 1) k (count - 1) true false at.0 (omega arith) (grind (arith, nat_tests)) (λ p ne. falls p count ne) at.1 (grind (arith, nat_tests))

pub brought : (order place : List ℕ) (k to : ℕ) → AreInverse order place → k < length place → to < length order → AreInverse (order_with order place k to) (place_with order place k to)
brought order place k to inv lk lt =
    let same = inv.same in
    swapped order place (get_or place k 0) to inv (omega (arith, (inv.placed k lk).0)) lt

pub inserted_set : (order place order_new place_new : List ℕ) (count k : ℕ) → IsSet count order place → slice_get (flags count place) k ≡ Some false → order_new ≡ order_with order place k count → place_new ≡ place_with order place k count → IsSet (count + 1) order_new place_new
inserted_set order place order_new place_new count k h e eo ep =
    let at = flag_at count place k false e in
    let above : count ≤ get_or place k 0 = let t = at.1 in grind (arith, nat_tests) in
    let low = (h.inverse.placed k at.0).0 in
    let same = h.inverse.same in
    let n = length-twice place (get_or order (get_or place k 0) 0) count (get_or order count 0) (get_or place k 0) in
    rw (eo, ep) (record { inverse = brought order place k count h.inverse at.0 (omega arith); within = omega arith })

pub removed_set : (order place order_new place_new : List ℕ) (count k : ℕ) → IsSet count order place → slice_get (flags count place) k ≡ Some true → order_new ≡ order_with order place k (count - 1) → place_new ≡ place_with order place k (count - 1) → IsSet (count - 1) order_new place_new
removed_set order place order_new place_new count k h e eo ep =
    let at = is_in_set order place count k h e in
    let within = h.within in
    let same = h.inverse.same in
    let n = length-twice place (get_or order (get_or place k 0) 0) (count - 1) (get_or order (count - 1) 0) (get_or place k 0) in
    rw (eo, ep) (record { inverse = brought order place k (count - 1) h.inverse at.0 (omega (arith, at.1)); within = omega arith })

pub none_in : (count : ℕ) (place : List ℕ) → count ≡ 0 → NoMember (flags count place)
none_in count place z k e = let at = flag_at count place k true e in let below : get_or place k 0 < count = let t = at.1 in grind (arith, nat_tests) in absurd (omega arith)

pub member_in : (order place : List ℕ) (count at x : ℕ) → IsSet count order place → at < count → x ≡ get_or order at x → slice_get (flags count place) x ≡ Some true
member_in order place count at x h small e =
    let within = h.within in
    let same = h.inverse.same in
    let there = h.inverse.ordered at (omega arith) in
    let is : x ≡ get_or order at 0 = e ∙ get_or_default order at x 0 (omega arith) in
    let place_x : get_or place x 0 ≡ at = ap (λ (m : ℕ). get_or place m 0) is ∙ there.1 in
    let lx : x < length place = omega (arith, there.0) in
    let yes : nat_lt (get_or place x 0) count ≡ true = grind (arith, nat_tests) in
    let lf : x < length (flags count place) = omega (arith, length-map place (λ (p : ℕ). nat_lt p count)) in
    slice_get-get_or (flags count place) x true lf ∙ ap (λ (b : Bool). Some b) (get_or-map (λ (p : ℕ). nat_lt p count) place x 0 true lx ∙ yes)

pub has_room : (order place : List ℕ) (count k : ℕ) → IsSet count order place → slice_get (flags count place) k ≡ Some false → count < length order
has_room order place count k h e =
    let at = flag_at count place k false e in
    let above : count ≤ get_or place k 0 = let t = at.1 in grind (arith, nat_tests) in
    let low = (h.inverse.placed k at.0).0 in
    let same = h.inverse.same in
    omega arith
