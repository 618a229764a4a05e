-- One call more is noted, and the pool stands after it; where a pool stands after a journal, the law holds of that journal.
use Rattle.std.proofs.Common.{◌≡◌, ◌-◌, ◌<◌, ◌++◌, List, reverse, length, take, drop, pos, sym, ap, ◌∙◌, subst, arith}
use native.Mathlib.Nat.{sub-zero}
use Rattle.std.proofs.lemmas.List.{length-take-le, take_all}
use Rattle.journal.specs.Law.{Stands}
use Rattle.journal.specs.declared.call.Call.TheVariants.{Enrol}
use Rattle.journal.specs.declared.entry.Entry.{Entry}
use Rattle.journal.proofs.Days.{lawful}
use Rattle.journal.proofs.Turning.{calls_of, turn_calls, turn_journal, turn_beyond, turn_stands}
use Rattle.journal.proofs.runs.resume.Goals as goal

pub loop-place-preserved : goal.loop-place-preserved
loop-place-preserved g c =
    let i = c.loop-place.place in
    let journal = c.loop-place.journal in
    let e = c.perform.result in
    let w = c.perform.new.pool.book in
    let inv = c.loop-place.invariant in
    let m = c.min-count.ensures in
    let n : length (take (c.min-count.result - 0) c.args.calls.now) ≡ c.min-count.result - 0 = length-take-le (c.min-count.result - 0) c.args.calls.now (omega arith) in
    let lc : c.loop-place.place < length (take (c.min-count.result - 0) c.args.calls.now) = c.loop-place-test.true in
    let lj : c.loop-place.place < length c.loop-place.journal = omega (arith, c.loop-place.auto.journal) in
    record {
      tariff = c.perform.ensures.tariff ∙ inv.tariff;
      rule = c.perform.ensures.rule ∙ inv.rule;
      calls = turn_calls journal (take (c.min-count.result - 0) c.args.calls.now) i e (Enrol (pos 0)) lj lc c.perform.ensures.call inv.calls;
      beyond = turn_beyond journal c.args.journal.now i e lj inv.beyond;
      stands = λ J st. subst (λ l. Stands (g.T.Tariff.meaning c.args.pool.now.tariff) (g.R.PartingRule.shares c.args.pool.now.rule) l w) (sym (turn_journal journal J i e lj))
          (turn_stands g.T.Tariff.meaning g.R.PartingRule.shares c.loop-place.pool.tariff c.args.pool.now.tariff c.loop-place.pool.rule c.args.pool.now.rule
          e c.loop-place.pool.book w inv.tariff inv.rule c.perform.ensures.stands (reverse (take i journal) ++ J) (inv.stands J st));
    }

pub returns : goal.returns
returns g c =
    let m = g.T.Tariff.meaning c.args.pool.now.tariff in
    let p = g.R.PartingRule.shares c.args.pool.now.rule in
    let i = c.loop-place.place in
    let journal = c.loop-place.journal in
    let inv = c.loop-place.invariant in
    let q = c.min-count.ensures in
    let n : length (take (c.min-count.result - 0) c.args.calls.now) ≡ c.min-count.result - 0 = length-take-le (c.min-count.result - 0) c.args.calls.now (omega arith) in
    let all : c.loop-place.place ≡ c.min-count.result = omega (arith, c.loop-place.auto.place-end, c.loop-place-test.false) in
    let stands = λ (J : List Entry) (st : Stands m p J c.args.pool.now.book). subst (λ k. Stands m p (reverse (take k journal) ++ J) c.loop-place.pool.book) all (inv.stands J st) in
    record {
      noted = record {
        counted = c.min-count.ensures;
        calls_noted = subst (λ k. calls_of (take k journal) ≡ take i (take (c.min-count.result - 0) c.args.calls.now)) all inv.calls
            ∙ (take_all i (take (c.min-count.result - 0) c.args.calls.now) c.loop-place-test.false ∙ ap (λ k. take k c.args.calls.now) (sub-zero c.min-count.result));
        beyond = subst (λ k. drop k journal ≡ drop k c.args.journal.now) all inv.beyond;
      };
      stands = stands;
      law = λ J st. lawful m p (g.met.T.Tariff.level c.args.pool.now.tariff) (g.met.R.PartingRule.fair c.args.pool.now.rule) _ (stands J st).each;
      tariff = inv.tariff;
      rule = inv.rule;
    }
