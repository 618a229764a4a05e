-- One member more, or the refusal at the first whose entries are not there.
use Rattle.std.proofs.Common.{get_or, is_ok, Ok, Err, sym, ap, ◌∙◌, arith}
use Rattle.sharing.proofs.Mapping.{map_step, map_end}
use Rattle.std.proofs.lemmas.Result.{err_from_is_err_and}
use Rattle.std.proofs.lemmas.Bool.{both_ways, cond-true, cond-false}
use Rattle.std.specs.Option.{ok_or}
use Rattle.day.specs.Dues.{all_entered, charge_of, charge_on, due_of, entered}
use Rattle.day.specs.Members.{nobody}
use Rattle.day.specs.declared.unclosed.Unclosed.TheVariants.{Missing}
use Rattle.day.proofs.Passing.{when_got, when_refused, pass_stop, pass_more, pass_end}
use Rattle.day.proofs.dues.write_dues.Goals as goal

pub returns-in_err-due : goal.returns-in_err-due
returns-in_err-due g c =
    let gs = c.args.entries.now.grid.now in
    let ms = c.args.entries.now.members.now in
    let i = c.loop-place.place in
    let r = c.from_residual.result in
    let due = due_of (g.T.Tariff.meaning c.args.tariff.now) gs (get_or ms i nobody) in
    let got = sym (ap (λ o. ok_or o Missing) c.due.ensures.answer) ∙ (sym c.ok_or.ensures.value ∙ c.in_err-due.was) in
    let refused = when_refused (entered gs (get_or ms i nobody)) due Missing _ got in
    let p = err_from_is_err_and r c.from_residual.ensures.1 in
    let is = p.1 ∙ ap Err (p.2 ∙ refused.1) in
    let fails = pass_stop (entered gs) ms i c.loop-place.invariant.0 nobody c.loop-place-test.true refused.0 in
    record {
      answer = is ∙ sym (cond-false (all_entered gs ms) (Ok tt) (Err Missing) fails);
      dues = λ ok. absurd (both_ways (is_ok r) (ap is_ok is) ok);
      charges = λ ok. absurd (both_ways (is_ok r) (ap is_ok is) ok);
    }

pub loop-place-preserved : goal.loop-place-preserved
loop-place-preserved g c =
    let m = g.T.Tariff.meaning c.args.tariff.now in
    let gs = c.args.entries.now.grid.now in
    let ms = c.args.entries.now.members.now in
    let i = c.loop-place.place in
    let mb = get_or ms i nobody in
    let due = c.in_ok-due.due in
    let got = sym (ap (λ o. ok_or o Missing) c.due.ensures.answer) ∙ (sym c.ok_or.ensures.value ∙ c.in_ok-due.was) in
    let given = when_got (entered gs mb) (due_of m gs mb) due Missing got in (
      pass_more (entered gs) ms i c.loop-place.invariant.0 nobody c.loop-place-test.true given.0,
      map_step (due_of m gs) ms c.loop-place.dues i nobody due c.loop-place-test.true (omega arith) given.1 c.loop-place.invariant.1,
      map_step (charge_of m gs) ms c.loop-place.charges i nobody c.charge.result c.loop-place-test.true (omega arith) (c.charge.ensures.answer ∙ ap (charge_on mb) given.1) c.loop-place.invariant.2,
    )

pub returns : goal.returns
returns g c =
    let m = g.T.Tariff.meaning c.args.tariff.now in
    let gs = c.args.entries.now.grid.now in
    let ms = c.args.entries.now.members.now in
    let i = c.loop-place.place in
    let all = pass_end (entered gs) ms i c.loop-place.invariant.0 c.loop-place-test.false in
    record {
      answer = sym (cond-true (all_entered gs ms) (Ok tt) (Err Missing) all);
      dues = λ _. map_end (due_of m gs) ms c.loop-place.dues i (omega arith) c.loop-place-test.false c.loop-place.invariant.1;
      charges = λ _. map_end (charge_of m gs) ms c.loop-place.charges i (omega arith) c.loop-place-test.false c.loop-place.invariant.2;
    }
