use Rattle.std.specs.Prelude.{◌≤◌, length}
use mathlib.Core.Path.{refl}
use native.Mathlib.Omega.{arith}
use Rattle.recipes.specs.RecipeLaws.{went-short, runs_recipe}
use Rattle.recipes.proofs.core.Goals as goal

pub returns-then-steps-le16 : goal.returns-then-steps-le16
returns-then-steps-le16 c =
    record {
      went = went-short _ _ _ _ _ _ _ c.if-steps-le16.true c.if-lent-steps.true c.wipe.ensures.zero c.wipe-then-steps-le16.ensures.zero (rw (c.into.ensures, c.at.ensures) at c.none_done.ensures);
      kept = record {
        first = c.wipe.ensures.kept;
        second = c.wipe-then-steps-le16.ensures.kept;
        output = record { offsets = refl; corners = refl; coords = refl };
      };
    }

-- the steps fit the ledger where they are 16 at most
pub returns : goal.returns
returns c =
    let few : length c.args.steps.now ≤ 16 → length c.args.steps.now ≤ c.args.lent = λ h. omega arith in
    runs_recipe _ _ _ _ few c.run.ensures
