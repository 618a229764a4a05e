-- A share is no more than all shares of its side, and the lines of all places are the lines. Assumes nothing.
use Rattle.std.proofs.Common.{◌<◌, length, sym, ◌∙◌, pos, rules, arith}
use Rattle.std.proofs.lemmas.List.{ext_get_or}
use Rattle.std.proofs.lemmas.List.Sums.{get_or-le-sum_by}
use Rattle.quantities.specs.Money.{money}
use Rattle.sharing.proofs.Lining.{length_lines, lines_at}
use Rattle.sharing.proofs.lines.write_lines.Goals as goal

pub write_each-requires-clause-callable : goal.write_each-requires-clause-callable
write_each-requires-clause-callable c k h =
    let p = get_or-le-sum_by (λ x. x) c.args.payable.now k 0 (omega arith) in
    let r = get_or-le-sum_by (λ x. x) c.args.receivable.now k 0 (omega arith) in
    search rules

pub returns : goal.returns
returns c =
    let cs = c.args.charges.now in
    let ps = c.args.payable.now in
    let rs = c.args.receivable.now in
    record {
      after = ext_get_or (money (pos 0)) _ _ (sym (length_lines cs ps rs (omega arith) (omega arith) ∙ omega arith)) (λ k h.
          let l : k < length cs = omega arith in
          let is = c.write_each.ensures.after k (money (pos 0)) l in
          sym (lines_at cs ps rs k (omega arith) (omega arith) l ∙ search rules));
    }
