-- One member more is cleared, and at the end all are.
use Rattle.std.proofs.Common.{◌≡◌, length, get_or, set, ap, ◌∙◌, arith, rules}
use Rattle.std.proofs.lemmas.List.Edits.{map_over_more}
use Rattle.std.proofs.lemmas.List.{get_or_default, length-set}
use Rattle.day.specs.Members.{nobody}
use Rattle.pool.specs.Tables.{cleared}
use Rattle.pool.proofs.entering.clear_all.Goals as goal

pub loop-member-preserved : goal.loop-member-preserved
loop-member-preserved c =
    let i = c.loop-member.member-index in
    let ys = c.loop-member.members in
    let n : length c.args.members.now ≡ 16 = search rules in
    let l = c.loop-member.invariant.1 in (
      ap (set ys i) c.without_entries.ensures.answer
          ∙ map_over_more cleared c.args.members.now ys i (get_or ys i nobody) (omega arith) c.loop-member.invariant.0 (get_or_default ys i nobody (get_or ys i nobody) (omega arith)),
      length-set ys i c.without_entries.result ∙ l,
    )
