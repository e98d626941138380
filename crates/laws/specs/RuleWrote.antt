-- Laws of what a writer of faces leaves behind that no proof of rule calls. Assumes nothing.
use Rattle.std.specs.Prelude.{◌≡◌, Bool, true, false, cond, List, ℕ, ◌+◌, length}
use Rattle.std.proofs.Common.{◌∙◌, ap, length-set}
use Rattle.slices.specs.Lists.{each, each_more}
use Rattle.rule.specs.Wrote.{Wrote, Room, Ended, wrote_then}
use Rattle.rule.specs.declared.At.{At}

pub ended-long : {o o' : List ℕ} {a a' : At} {n : ℕ} → Ended o a n o' a' → length o' ≡ length o
ended-long {o} {o'} {a} {a'} {n} p = ap length p.offs ∙ length-set o a.offs (a.cors + n)

-- ---- faces by a test

pub room-yes : {o c : List ℕ} {a : At} (t : Bool) (fs gs : List (List ℕ)) → t ≡ true → Room o c a (cond t fs gs) → Room o c a fs
room-yes t fs gs e r = rw e at r

pub room-no : {o c : List ℕ} {a : At} (t : Bool) (fs gs : List (List ℕ)) → t ≡ false → Room o c a (cond t fs gs) → Room o c a gs
room-no t fs gs e r = rw e at r

pub wrote-yes : {o c o' c' : List ℕ} {a a' : At} (t : Bool) (fs gs : List (List ℕ)) → t ≡ true → Wrote o c a fs o' c' a' → Wrote o c a (cond t fs gs) o' c' a'
wrote-yes t fs gs e w = rw e w

pub wrote-no : {o c o' c' : List ℕ} {a a' : At} (t : Bool) (fs gs : List (List ℕ)) → t ≡ false → Wrote o c a gs o' c' a' → Wrote o c a (cond t fs gs) o' c' a'
wrote-no t fs gs e w = rw e w

pub wrote-more :
    {o c o' c' o'' c'' : List ℕ} {a a' a'' : At} (g : ℕ → List (List ℕ)) (i : ℕ) → Wrote o c a (each g i) o' c' a' → Wrote o' c' a' (g i) o'' c'' a'' → Wrote o c a (each g (i + 1)) o'' c'' a''
wrote-more g i p q = rw each_more (wrote_then p q)
