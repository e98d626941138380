-- Laws of a recipe of steps given as words and of a list given by a number, that no proof of their crate calls. Assumes nothing.
use Rattle.std.specs.Prelude.{◌≡◌, Bool, ◌&&◌, List, ℕ, zero, suc, ◌<◌, ◌≤◌, length, leb}
use Rattle.std.proofs.Math.Path.{refl, ap, subst}
use Rattle.std.proofs.Common.{sym, ◌∙◌, true≢false, le-leb}
use Rattle.std.proofs.Math.Bool.{true, false, cond, not}
use Rattle.std.proofs.Math.Dec.{ltb}
use Rattle.std.proofs.lemmas.Bool.{lt-leb}
use Rattle.slices.specs.First.{any}
use Rattle.operators.specs.Number.{Number}
use Rattle.engine.specs.Answer.{Answer}
use Rattle.engine.specs.Answer as answers
use Rattle.steps.specs.Steps.{Mesh, Room}
use Rattle.steps.specs.declared.Step.{Step}
use Rattle.chain.specs.Trail.{Trail, stopped, Zero}
use Rattle.named.specs.Named.{list_masks}
use Rattle.named.specs.declared.NamedList.{NamedList}
use Rattle.named.specs.declared.NamedList.TheVariants.{Zip}
use Rattle.lists.specs.Lists.{list_trail, Listed}
use Rattle.recipes.specs.Recipe.{recipe_trail, flat_rows, Entered}
use Rattle.given.specs.Given.{unknown, steps_in, strange, strange_at}
use Rattle.given.specs.GivenLaws.{strange-by}
use Rattle.called.specs.Called.{given_trail, known_list, list_named, coded_trail}
use Rattle.laws.specs.GivenWords.{place_is}

-- ---- the two ways through a recipe

module _ (lent : ℕ) (ws : List (List ℕ)) (w : Mesh) (ra rb rz : Room) where
  trail-strange : strange ws ≡ true → given_trail lent ws w ra rb rz ≡ stopped 17 (strange_at ws)
  unfolding given_trail
  trail-strange h = let s = strange-by (ltb 16 (length ws)) (any (unknown ws) (length ws)) h in rw (s.0, s.1) refl

  trail-plain : strange ws ≡ false → given_trail lent ws w ra rb rz ≡ recipe_trail lent (steps_in ws) (length ws) w ra rb rz
  unfolding given_trail recipe_trail
  trail-plain h = by (ltb 16 (length ws)) (any (unknown ws) (length ws)) refl h
    where
      by : (x y : Bool) → ltb 16 (length ws) ≡ x → not x && y ≡ false →
          cond x (stopped 2 3) (cond y (stopped 17 (strange_at ws)) (recipe_trail lent (steps_in ws) (length ws) w ra rb rz)) ≡ recipe_trail lent (steps_in ws) (length ws) w ra rb rz
      by true y e q = rw e refl
      by false true e q = absurd (true≢false q)
      by false false e q = refl

  pub entered-strange :
      {b : Bool} {p : ℕ} {r : Answer} {l : List ℕ} {a b₀ z a' b' : Mesh} → b ≡ strange ws → b ≡ true → p ≡ cond (strange ws) (strange_at ws) 0 → r ≡ answers.Refused 17 p 0 →
      Zero a.offsets a.corners a.coords a'.offsets a'.corners a'.coords →
      Zero b₀.offsets b₀.corners b₀.coords b'.offsets b'.corners b'.coords →
      Entered (given_trail lent ws w ra rb rz) (flat_rows (given_trail lent ws w ra rb rz).rows) l a b₀ z r l a' b' z
  unfolding flat_rows
  entered-strange {b} {p} {r} {l} {a} {b₀} {z} {a'} {b'} e h q s f g =
      subst (λ (t : Trail). Entered t (flat_rows t.rows) l a b₀ z r l a' b' z) (sym (trail-strange (sym e ∙ h)))
      (record {
        ended = record { answer = s ∙ ap (λ (x : ℕ). answers.Refused 17 x 0) (place_is ws (sym e ∙ h) q); offsets = refl; corners = refl; coords = refl };
        first = f;
        second = g;
        ledger = refl;
      })

  pub entered-plain :
      {b : Bool} {s : List Step} {r : Answer} {l l' : List ℕ} {a b₀ z a' b' z' : Mesh} → b ≡ strange ws → b ≡ false → s ≡ steps_in ws →
      Entered (recipe_trail lent s (length ws) w ra rb rz) (flat_rows (recipe_trail lent s (length ws) w ra rb rz).rows) l a b₀ z r l' a' b' z' →
      Entered (given_trail lent ws w ra rb rz) (flat_rows (given_trail lent ws w ra rb rz).rows) l a b₀ z r l' a' b' z'
  entered-plain {b} {s} {r} {l} {l'} {a} {b₀} {z} {a'} {b'} {z'} e h q k =
      subst (λ (t : Trail). Entered t (flat_rows t.rows) l a b₀ z r l' a' b' z')
      (ap (λ (y : List Step). recipe_trail lent y (length ws) w ra rb rz) q ∙ sym (trail-plain (sym e ∙ h))) k

-- ---- the two ways through a list

pub last-list :
    (c : ℕ) (t h : Number) → (c ≡ 1 → ⊥) → (c ≡ 2 → ⊥) → (c ≡ 3 → ⊥) → (c ≡ 4 → ⊥) → (c ≡ 5 → ⊥) → (c ≡ 6 → ⊥) → (c ≡ 7 → ⊥) → (c ≡ 8 → ⊥) →
    (c ≡ 9 → ⊥) → Zip h ≡ list_named c t h
unfolding list_named
last-list zero t h a b d e f g i j k = refl
last-list (suc zero) t h a b d e f g i j k = absurd (a refl)
last-list (suc (suc zero)) t h a b d e f g i j k = absurd (b refl)
last-list (suc (suc (suc zero))) t h a b d e f g i j k = absurd (d refl)
last-list (suc (suc (suc (suc zero)))) t h a b d e f g i j k = absurd (e refl)
last-list (suc (suc (suc (suc (suc zero))))) t h a b d e f g i j k = absurd (f refl)
last-list (suc (suc (suc (suc (suc (suc zero)))))) t h a b d e f g i j k = absurd (g refl)
last-list (suc (suc (suc (suc (suc (suc (suc zero))))))) t h a b d e f g i j k = absurd (i refl)
last-list (suc (suc (suc (suc (suc (suc (suc (suc zero)))))))) t h a b d e f g i j k = absurd (j refl)
last-list (suc (suc (suc (suc (suc (suc (suc (suc (suc zero))))))))) t h a b d e f g i j k = absurd (k refl)
last-list (suc (suc (suc (suc (suc (suc (suc (suc (suc (suc n)))))))))) t h a b d e f g i j k = refl

pub known-not : (code : ℕ) → code < 1 → false ≡ known_list code
unfolding known_list
known-not code h = rw (lt-leb 1 code h) refl

pub known_by : (code : ℕ) → 1 ≤ code → leb code 10 ≡ known_list code
unfolding known_list
known_by code h = rw (le-leb 1 code h) refl

module _ (code : ℕ) (t h : Number) (g : Bool) (k : List ℕ) (regular : Bool) (w : Mesh) (ra rb rz : Room) where
  pub listed-known :
      {b : Bool} {l : NamedList} {r : Answer} {p q x p' q' x' : Mesh} → b ≡ known_list code → b ≡ true → l ≡ list_named code t h →
      Listed (list_trail l (list_masks l g k regular) w ra rb rz) p q x r p' q' x' → Listed (coded_trail code t h g k regular w ra rb rz) p q x r p' q' x'
  unfolding coded_trail
  listed-known {b} {l} {r} {p} {q} {x} {p'} {q'} {x'} e y n z =
      rw (sym e ∙ y) (subst (λ (m : NamedList). Listed (list_trail m (list_masks m g k regular) w ra rb rz) p q x r p' q' x') n z)

  pub listed-unknown :
      {b : Bool} {r : Answer} {p q x p' q' : Mesh} → b ≡ known_list code → b ≡ false → r ≡ answers.Refused 17 0 0 →
      Zero p.offsets p.corners p.coords p'.offsets p'.corners p'.coords →
      Zero q.offsets q.corners q.coords q'.offsets q'.corners q'.coords → Listed (coded_trail code t h g k regular w ra rb rz) p q x r p' q' x
  unfolding coded_trail
  listed-unknown e y s f u = rw (sym e ∙ y) (record { ended = record { answer = s; offsets = refl; corners = refl; coords = refl }; first = f; second = u })
