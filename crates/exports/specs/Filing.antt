-- A panel file as it crosses the boundary: what an exported call that reads or writes one leaves. Definitions, and the laws of a call.
use Rattle.std.specs.Prelude.{◌≡◌, List, ℕ, length, Float}
use Rattle.std.proofs.Common.{◌∙◌, ap}
use Rattle.panel.specs.Format.{Reading, filed_of, offsets_after, corners_after, coords_after, Read}
use Rattle.panel.specs.Filed.{Filed}
use Rattle.writer.specs.File.{file_of, given}
use Rattle.writer.specs.Answer.{bytes_after}
use Rattle.writer.specs.Written.{Written}
use Rattle.given.specs.Given.{steps_in, fours_after, StepsRead, given_written, GivenWrote}
use Rattle.spelling.specs.Words.{filing, filed_words, writing, written_words}
use Rattle.spelling.specs.declared.Filing.{Filing}
use Rattle.spelling.specs.declared.Writing.{Writing}

-- an exported call that reads a file: its words, and the lent offsets, corners and coordinates before and after it
pub record FileTold (q : Reading) (o k : List ℕ) (x : List Float) (r : Filing) (o' k' : List ℕ) (x' : List Float) : Type 0 where
  pub words : filing r ≡ filed_words (filed_of q)
  pub offsets : o' ≡ offsets_after q o
  pub corners : k' ≡ corners_after q k
  pub coords : x' ≡ coords_after q x

-- the same of one that reads the steps of the bytes s
pub record StepsTold (s : List ℕ) (q : Reading) (l : List (List ℕ)) (r : Filing) (l' : List (List ℕ)) : Type 0 where
  pub words : filing r ≡ filed_words (filed_of q)
  pub steps : l' ≡ fours_after s q l

-- an exported call that writes a file: its words, and the lent bytes before and after it
pub record WriteTold (ws : List (List ℕ)) (o k : List ℕ) (x : List Float) (out : List ℕ) (r : Writing) (out' : List ℕ) : Type 0 where
  pub words : writing r ≡ written_words (given_written ws o k x (length out))
  pub bytes : out' ≡ bytes_after (given_written ws o k x (length out)) (file_of (given (steps_in ws) (length ws) o k x)) out

-- ---- laws

pub file-told :
    {q : Reading} {o k : List ℕ} {x : List Float} {a : Filed} {r : Filing} {o' k' : List ℕ} {x' : List Float} →
    Read q o k x a o' k' x' → filing r ≡ filed_words a → FileTold q o k x r o' k' x'
file-told c w = record { words = w ∙ ap filed_words c.answer; offsets = c.offsets; corners = c.corners; coords = c.coords }

pub steps-told :
    {s : List ℕ} {q : Reading} {l l' : List (List ℕ)} {a : Filed} {r : Filing} → StepsRead s q l a l' → filing r ≡ filed_words a → StepsTold s q l r l'
steps-told c w = record { words = w ∙ ap filed_words c.answer; steps = c.steps }

pub write-told :
    {ws : List (List ℕ)} {o k : List ℕ} {x : List Float} {out out' : List ℕ} {a : Written} {r : Writing} →
    GivenWrote ws o k x out a out' → writing r ≡ written_words a → WriteTold ws o k x out r out'
write-told {ws} {o} {k} {x} {out} c w =
    record {
      words = w ∙ ap written_words c.answer;
      bytes = c.bytes ∙ ap (λ (y : Written). bytes_after y (file_of (given (steps_in ws) (length ws) o k x)) out) c.answer;
    }
