-- The lines are computed from the charges as numbers.
use Rattle.std.proofs.Common.{is_ok, ap, ◌∙◌}
use Rattle.std.proofs.lemmas.Bool.{cond-true}
use Rattle.parting.specs.LargestRemainder.{largest_remainder, largest_share, floor_at, rest_at, left_over, rank_at}
use Rattle.sharing.specs.Shares.{lines_of, sharing}
use Rattle.sharing.proofs.worked.seven_members.Goals as goal

pub returns : goal.returns
unfolding largest_share floor_at rest_at left_over rank_at
returns c =
    let are = c.seven_charges-charges.ensures.answer in
    let answer = c.share_out-reserve.ensures.answer ∙ ap (λ cs. sharing cs 7) are in
    record {
      lines = c.share_out-reserve.ensures.lines ∙ (cond-true (is_ok c.share_out-reserve.result) _ _ (ap is_ok answer) ∙ ap (lines_of largest_remainder) are);
      reserve = answer;
    }
