-- Small files, worked out: one statement. Assumes nothing.
use Rattle.std.specs.Prelude.{◌≡◌, refl, List, [], ◌∷◌, ◌++◌, ℕ, replicate}
use Rattle.words.specs.Words.{word_at, whole_at}
use Rattle.parts.specs.StepWords.{one_of, takes_ratio, takes_height, good_step}
use Rattle.parts.specs.Parts.{count_at, step_says, whole_says, items, section, faces}
use Rattle.panel.specs.Filed.{Filed}
use Rattle.panel.specs.Filed.{Fine, Refused}
use Rattle.panel.specs.Format.{ending, checked}

-- a word below 256
abbrev small : ℕ → List ℕ
small w = w ∷ 0 ∷ 0 ∷ 0 ∷ []

-- one step, then no positions and no faces
abbrev one_step : List ℕ → List ℕ → List ℕ → List ℕ → List ℕ
one_step code flags ratio height = small 1 ++ (code ++ (flags ++ (ratio ++ (height ++ (small 0 ++ small 0)))))

abbrev minus_zero : List ℕ
minus_zero = 0 ∷ 0 ∷ 0 ∷ 128 ∷ []

pub record Pieces : Type 0 where
  pub empty : checked [] ≡ Refused 15 0
  pub zeros : checked (replicate 12 0) ≡ Fine 0 0 0 0
  pub left_over : checked (replicate 13 0) ≡ Refused 18 12
  pub many-steps : checked (small 17) ≡ Refused 16 0
  pub cut_step : checked (small 1 ++ small 12) ≡ Refused 15 4
  pub unknown : checked (one_step (small 12) (small 0) (small 0) (small 0)) ≡ Refused 17 4
  pub plain : checked (one_step (small 4) (small 0) (small 0) (small 0)) ≡ Fine 1 0 0 0
  pub both : checked (one_step (small 4) (small 3) minus_zero (small 0)) ≡ Fine 1 0 0 0
  pub flag : checked (one_step (small 5) (small 1) (small 0) (small 0)) ≡ Refused 17 4
  pub third-flag : checked (one_step (small 4) (small 4) (small 0) (small 0)) ≡ Refused 17 4
  pub minus-zero : checked (one_step (small 3) (small 0) minus_zero (small 0)) ≡ Refused 17 4
  pub arity : checked (small 0 ++ (small 0 ++ (small 1 ++ (177 ∷ 4 ∷ 0 ∷ 0 ∷ [])))) ≡ Refused 16 12
  pub cut-corner : checked (small 0 ++ (small 0 ++ (small 1 ++ (small 3 ++ small 7)))) ≡ Refused 15 20

pub pieces : Pieces
unfolding checked section count_at step_says whole_says items faces ending word_at whole_at good_step takes_ratio takes_height one_of
pieces = record {
  empty = refl;
  zeros = refl;
  left_over = refl;
  many-steps = refl;
  cut_step = refl;
  unknown = refl;
  plain = refl;
  both = refl;
  flag = refl;
  third-flag = refl;
  minus-zero = refl;
  arity = refl;
  cut-corner = refl;
}
