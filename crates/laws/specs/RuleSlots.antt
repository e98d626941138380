-- Laws of a slot, from the parts of what it names, that no proof of rule calls. Assumes nothing.
use Rattle.std.specs.Prelude.{◌≡◌, Bool, true, false, length, get_or, take}
use Rattle.std.proofs.Math.Path.{refl, ap}
use Rattle.std.proofs.Common.{◌∙◌, not-suc-le-zero, le_of_suc-le-suc, add-one, arith}
use mathlib.Core.List.{List, [], ◌∷◌, ◌++◌}
use Prim.Native.Nat.{ℕ, zero, suc, ◌+◌, ◌*◌, ◌<◌, ◌≤◌}
use Rattle.mesh.specs.Mesh.{face_of, next, mate}
use Rattle.mesh.specs.Edges.{up, rank}
use Rattle.rule.specs.Rule.{moved, side, named_at, vertex_at, made, apexed}
use Rattle.rule.specs.Slots.{Fit, Low}
use Rattle.rule.specs.declared.Move.{Move}
use Rattle.rule.specs.declared.Move.TheVariants.{MateNext}
use Rattle.rule.specs.declared.Slot.{Slot}
use Rattle.rule.specs.declared.Kind.{Kind}
use Rattle.rule.specs.declared.Kind.TheVariants.{Dir, Edge, Cor, Face, Apex}
use Rattle.rule.specs.declared.Bases.{Bases}

pub low-fit : {b : Bases} → Low b → Fit b
low-fit l = record { dir-under = omega (arith, l.dir-under); edge-under = omega (arith, l.edge-under); cor-under = omega (arith, l.cor-under); face-under = omega (arith, l.face-under) }

pub apexed-fit : (b : Bases) (n : ℕ) → Low b → n ≤ 60000 → Fit (apexed b n)
apexed-fit b n l h = record { dir-under = omega (arith, l.dir-under); edge-under = omega (arith, l.edge-under); cor-under = omega (arith, l.cor-under); face-under = omega (arith, l.face-under) }

pub apexed-is : (b : Bases) (n m : ℕ) → m ≡ n → ◌≡◌ {A = Bases} (record { dir = b.dir; edge = b.edge; cor = b.cor; face = b.face + m }) (apexed b n)
apexed-is b n m e = ap (apexed b) e

pub side-le : (b : Bool) → side b ≤ 1
side-le true = omega arith
side-le false = omega arith

pub side-up : (t : Bool) → t ≡ true → 0 ≡ side t
side-up t e = rw e

pub side-down : (t : Bool) → t ≡ false → 1 ≡ side t
side-down t e = rw e

-- ---- from the parts, as the code has them

pub mate-next-is : (o k : List ℕ) (v : Move) (c m r : ℕ) → v ≡ MateNext → m ≡ mate o k c → r ≡ next o m → r ≡ moved o k v c
mate-next-is o k v c m r e p q = rw e (q ∙ ap (next o) p)

pub dir-named : (o k : List ℕ) (b : Bases) (q : Kind) (c e m t : ℕ) → q ≡ Dir → e ≡ rank o k c → m ≡ e → t ≡ side (up o k c) → b.dir + 2 * m + t ≡ named_at o k b q c
dir-named o k b q c e m t z p x r = rw (z, x, p, r)

pub edge-named : (o k : List ℕ) (b : Bases) (q : Kind) (c e m : ℕ) → q ≡ Edge → e ≡ rank o k c → m ≡ e → b.edge + m ≡ named_at o k b q c
edge-named o k b q c e m z p x = rw (z, x, p)

pub cor-named : (o k : List ℕ) (b : Bases) (q : Kind) (c m : ℕ) → q ≡ Cor → m ≡ c → b.cor + m ≡ named_at o k b q c
cor-named o k b q c m z x = rw (z, x)

pub face-named : (o k : List ℕ) (b : Bases) (q : Kind) (c e m : ℕ) → q ≡ Face → e ≡ face_of o c → m ≡ e → b.face + m ≡ named_at o k b q c
face-named o k b q c e m z p x = rw (z, x, p)

pub apex-named : (o k : List ℕ) (b : Bases) (q : Kind) (c : ℕ) → q ≡ Apex → b.face ≡ named_at o k b q c
apex-named o k b q c z = rw z

pub vertex-is : (o k : List ℕ) (b : Bases) (s : Slot) (c d r : ℕ) → d ≡ moved o k s.at c → r ≡ named_at o k b s.kind d → r ≡ vertex_at o k b s c
unfolding vertex_at
vertex-is o k b s c d r e h = h ∙ ap (named_at o k b s.kind) e

-- ---- the face that slots make

module _ (v : Slot → ℕ → ℕ) where
  made-suc : (rule : List Slot) (d : Slot) (j c : ℕ) → j < length rule → made v (take (suc j) rule) c ≡ made v (take j rule) c ++ (v (get_or rule j d) c ∷ [])
  unfolding made
  made-suc [] d j c h = absurd (not-suc-le-zero h)
  made-suc (s ∷ rule) d zero c h = refl
  made-suc (s ∷ rule) d (suc j) c h = ap (λ (l : List ℕ). v s c ∷ l) (made-suc rule d j c (le_of_suc-le-suc h))

  -- with one slot more
  pub made_more : (rule : List Slot) (d : Slot) (j c : ℕ) → j < length rule → made v (take (j + 1) rule) c ≡ made v (take j rule) c ++ (v (get_or rule j d) c ∷ [])
  made_more rule d j c h = rw add-one (made-suc rule d j c h)
