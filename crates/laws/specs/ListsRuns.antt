-- Laws of a list as a run of its steps by sixteen, that no proof of its crate calls. Assumes nothing.
use Rattle.std.specs.Prelude.{◌≡◌, refl, Bool, true, cond, List, ℕ, length, replicate}
use Rattle.std.proofs.Common.{sym, ◌∙◌, ap, subst}
use Rattle.slices.specs.Lists.{over}
use Rattle.engine.specs.Answer.{Answer}
use Rattle.steps.specs.Steps.{Mesh, Room, Masks}
use Rattle.steps.specs.declared.Step.{Step}
use Rattle.steps.specs.declared.Step.TheVariants.{Dual}
use Rattle.chain.specs.Trail.{Trail}
use Rattle.chain.specs.declared.Ran.{Ran}
use Rattle.runner.specs.Run.{run_trail, Went}
use Rattle.named.specs.Named.{list_steps, meta_arities, defaulted, masked, list_masks}
use Rattle.named.specs.declared.NamedList.{NamedList}
use Rattle.named.specs.declared.NamedList.TheVariants.{Bevel, Expand, Join, Medial, Meta, Needle, Ortho, Snub, Truncate, Zip}
use Rattle.lists.specs.Lists.{list_trail, Listed}

-- the steps of a list by sixteen; past its own nothing reads them
abbrev pub sixteen : NamedList → List Step
sixteen l = over (list_steps l) (replicate 16 Dual)

run_of : (l : NamedList) (m : Masks) (w : Mesh) (a b z : Room) → run_trail m (sixteen l) (length (list_steps l)) w a b z ≡ list_trail l m w a b z
unfolding run_trail list_trail
run_of (Bevel t h) m w a b z = refl
run_of (Expand t) m w a b z = refl
run_of (Join t) m w a b z = refl
run_of (Medial t h) m w a b z = refl
run_of (Meta t h) m w a b z = refl
run_of (Needle h) m w a b z = refl
run_of (Ortho t) m w a b z = refl
run_of (Snub t h) m w a b z = refl
run_of (Truncate h) m w a b z = refl
run_of (Zip h) m w a b z = refl

pub listed_by :
    (l : NamedList) (m : Masks) (w : Mesh) (a b z : Room) {s : List Step} {n : ℕ} {r : Ran} {p q x p' q' x' : Mesh} → s ≡ sixteen l → n ≡ length (list_steps l) →
    Went (run_trail m s n w a b z) p q x r p' q' x' → Listed (list_trail l m w a b z) p q x r.answer p' q' x'
listed_by l m w a b z {s} {n} {r} {p} {q} {x} {p'} {q'} {x'} e f h =
    let i : run_trail m s n w a b z ≡ list_trail l m w a b z = ap (λ (s : List Step). run_trail m s n w a b z) e ∙ ap (λ (n : ℕ). run_trail m (sixteen l) n w a b z) f ∙ run_of l m w a b z in
    let g : Went (list_trail l m w a b z) p q x r p' q' x' = subst (λ (t : Trail). Went t p q x r p' q' x') i h in
    record { ended = g.ended; first = g.first; second = g.second }

-- its masks, as the code chooses them
module _ (l : NamedList) (g : Bool) (k : List ℕ) (regular : Bool) where
  masks-by : (d : Bool) → d ≡ defaulted l g → list_masks l g k regular ≡ cond d (masked true meta_arities regular) (masked g k regular)
  masks-by d e = ap (λ (c : Bool). cond c (masked true meta_arities regular) (masked g k regular)) (sym e)

  pub listed-as :
      (d c : Bool) (w : Mesh) (a b z : Room) {r : Answer} {p q x p' q' x' : Mesh} → d ≡ defaulted l g → d ≡ c →
      Listed (list_trail l (cond c (masked true meta_arities regular) (masked g k regular)) w a b z) p q x r p' q' x' → Listed (list_trail l (list_masks l g k regular) w a b z) p q x r p' q' x'
  listed-as d c w a b z {r} {p} {q} {x} {p'} {q'} {x'} e f h =
      subst (λ (m : Masks). Listed (list_trail l m w a b z) p q x r p' q' x') (sym (masks-by c (sym f ∙ e))) h
