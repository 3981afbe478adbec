-- What a loop of reads or writes did.
use Rattle.std.proofs.Common.{◌≡◌, ℕ, ◌+◌, ◌-◌, ◌<◌, ◌≤◌, List, [], ◌∷◌, ◌++◌, length, take, drop, Option, Result, Ok, Err, sym, arith}
use Rattle.std.specs.Prelude.{OnErr}
use Rattle.std.specs.Io.KnownBytes.{Consumes, Appends, Keeps}
use Rattle.std.proofs.KnownBytes.{Appends-trans, Appends-kept, Consumes-trans, Consumes-kept}
use Rattle.std.proofs.lemmas.List.{take-append-drop, length-append, length-drop, length-take-le, take_rest}
use Rattle.std.proofs.Math.Seq.{take-add}
use Rattle.dtp_io.specs.Faults.{TookWithin, TookMore, AddsFront}

pub on_err : {A E : Type 0} (r : Result A E) (P : Type 0) → P → OnErr r P
on_err (Ok x) P h = tt
on_err (Err e) P h = h

pub not_below_none : {n : ℕ} {xs : List ℕ} → xs ≡ [] → n < length xs → ⊥
not_below_none {xs = []} none lt = omega (arith, lt)
not_below_none {xs = x ∷ xs} none lt = cc

pub front_added : (a b c : Option (List ℕ)) (bytes : List ℕ) (done : ℕ) → Appends a b (take done bytes) → Keeps b c → done < length bytes → AddsFront a c bytes
front_added a b c bytes done p k lt =
    (take done bytes, drop done bytes, sym (take-append-drop done bytes), Appends-kept a b c (take done bytes) p k, omega (arith, length-drop done bytes))

pub added_more : (a b c : Option (List ℕ)) (bytes : List ℕ) (done count : ℕ) → Appends a b (take done bytes) → Appends b c (take count (take (length bytes - done) (drop done bytes))) → Appends a c (take (done + count) bytes)
added_more a b c bytes done count p q =
    rw (take-add done count bytes) (Appends-trans a b c (take done bytes) (take count (drop done bytes)) p (rw take_rest at q))

-- a piece more than the limit allows
pub took_more : (a b c : Option (List ℕ)) (all buf : List ℕ) (count limit : ℕ) → Consumes a b all → Consumes b c (take count buf) → count ≤ length buf → limit < length all + count → TookMore a c limit
took_more a b c all buf count limit p q le lt =
    (all ++ take count buf, Consumes-trans a b c all (take count buf) p q, omega (arith, length-append all (take count buf), length-take-le count buf le))

-- a piece within the limit
pub took_within : (a b c : Option (List ℕ)) (all buf : List ℕ) (count limit : ℕ) → Consumes a b all → Consumes b c (take count buf) → count ≤ length buf → length all + count ≤ limit → TookWithin a c limit
took_within a b c all buf count limit p q le within =
    (all ++ take count buf, Consumes-trans a b c all (take count buf) p q, omega (arith, length-append all (take count buf), length-take-le count buf le))
