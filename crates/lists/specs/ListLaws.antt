-- A list is a run of its steps. Assumes nothing.
use Rattle.std.specs.Prelude.{◌≡◌, refl, Bool, false, List, [], ℕ, length, Option, Some, None, is_some}
use Rattle.std.specs.Option.{unwrap_or}
use Rattle.std.specs.Borrow.{Bor}
use Rattle.std.proofs.Common.{sym, ◌∙◌, ap, ap₂, subst}
use Rattle.mesh.specs.declared.MeshMut.{MeshMut}
use Rattle.picks.specs.Picks.{picked, allows}
use Rattle.closed.specs.Faces.{kis_faces}
use Rattle.operators.specs.Operators.{kis_coords, kis_outcome}
use Rattle.steps.specs.Steps.{Mesh, Room, Masks}
use Rattle.steps.specs.declared.Step.{Step}
use Rattle.chain.specs.Lent.{held, space}
use Rattle.chain.specs.Trail.{Trail, trail}
use Rattle.chain.specs.declared.Ran.{Ran}
use Rattle.runner.specs.Run.{run_trail, Went, Runs}
use Rattle.named.specs.Named.{list_steps, masked, list_masks}
use Rattle.named.specs.declared.NamedList.{NamedList}
use Rattle.named.specs.declared.NamedList.TheVariants.{Bevel, Expand, Join, Medial, Meta, Needle, Ortho, Snub, Truncate, Zip}
use Rattle.lists.specs.Lists.{list_trail, numbers_in, Lists}

run_of : (l : NamedList) (m : Masks) (w : Mesh) (a b z : Room) → run_trail m (list_steps l) (length (list_steps l)) w a b z ≡ list_trail l m w a b z
unfolding run_trail list_trail
run_of (Bevel t h) m w a b z = refl
run_of (Expand t) m w a b z = refl
run_of (Join t) m w a b z = refl
run_of (Medial t h) m w a b z = refl
run_of (Meta t h) m w a b z = refl
run_of (Needle h) m w a b z = refl
run_of (Ortho t) m w a b z = refl
run_of (Snub t h) m w a b z = refl
run_of (Truncate h) m w a b z = refl
run_of (Zip h) m w a b z = refl

-- the masks of a list, as the code makes them
pub masks_by : (o : Option (Bor (List ℕ))) {g : Bool} {k : Bor (List ℕ)} (d : Bor (List ℕ)) (regular : Bool) → g ≡ is_some o → k ≡ unwrap_or o d → d.now ≡ [] →
    masked (is_some o) (numbers_in o) regular ≡ masked g k.now regular
masks_by o d regular e f h = ap₂ (λ (g : Bool) (l : List ℕ). masked g l regular) (sym e) (sym (ap (λ (l : Bor (List ℕ)). l.now) f ∙ go o))
  where
    go : (o : Option (Bor (List ℕ))) → (unwrap_or o d).now ≡ numbers_in o
    go None = h
    go (Some l) = refl

-- the run of its steps, with these masks
pub lists_by :
    (l : NamedList) {m n : Masks} {steps : List Step} (w : Mesh) {a b z a' b' z' : MeshMut} {r : Ran} → steps ≡ list_steps l → m ≡ n →
    Runs (run_trail n steps (length steps) w) a b z r a' b' z' → Lists (list_trail l m w) a b z r.answer a' b' z'
lists_by l {m} {n} {steps} w {a} {b} {z} {a'} {b'} {z'} {r} e f h =
    let i : run_trail n steps (length steps) w (space a) (space b) (space z) ≡ list_trail l m w (space a) (space b) (space z) =
    ap₂ (λ (s : List Step) (m : Masks). run_trail m s (length s) w (space a) (space b) (space z)) e (sym f) ∙ run_of l m w (space a) (space b) (space z) in
    let g : Went (list_trail l m w (space a) (space b) (space z)) (held a) (held b) (held z) r (held a') (held b') (held z') =
    subst (λ (t : Trail). Went t (held a) (held b) (held z) r (held a') (held b') (held z')) i h.went in
    record { listed = record { ended = g.ended; first = g.first; second = g.second }; kept = h.kept }

-- where arities are not given, none are read
pub unread : (l : NamedList) (k : List ℕ) (regular : Bool) (w : Mesh) (a b z : Room) →
    list_trail l (list_masks l false k regular) w a b z ≡ list_trail l (list_masks l false [] regular) w a b z
unfolding list_trail trail kis_outcome kis_faces kis_coords picked allows
unread (Bevel t h) k regular w a b z = refl
unread (Expand t) k regular w a b z = refl
unread (Join t) k regular w a b z = refl
unread (Medial t h) k regular w a b z = refl
unread (Meta t h) k regular w a b z = refl
unread (Needle h) k regular w a b z = refl
unread (Ortho t) k regular w a b z = refl
unread (Snub t h) k regular w a b z = refl
unread (Truncate h) k regular w a b z = refl
unread (Zip h) k regular w a b z = refl
