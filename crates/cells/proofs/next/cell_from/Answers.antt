-- What the digits at the start say of the cell.
use Rattle.std.proofs.Common.{length, take, eqb, ltb, get_or, ◌&&◌, sym, ap, ◌∙◌, arith}
use Rattle.cells.proofs.Fronts.{front_le, front_take}
use Rattle.cells.proofs.Meanings.{whole, digits, no_digits, shown_of, means_empty, means_zero, means_number, means_other}
use Rattle.cells.proofs.next.cell_from.Goals as goal
use Rattle.cells.specs.Numbers.{number, other, empty}
use Rattle.cells.specs.Scans.{front}
use Rattle.std.proofs.lemmas.List.{length-take-le}
use Rattle.std.proofs.lemmas.Bool.{eqb-true, eqb-false}

pub slice_bounds-result-end : goal.slice_bounds-result-end
slice_bounds-result-end c = sym (length-take-le _ c.args.rest.now (omega (arith, c.cell_len.ensures.answer, front_le c.args.rest.now)))

pub returns-then-not-ends_at : goal.returns-then-not-ends_at
returns-then-not-ends_at c =
    let bs = c.args.rest.now in
    let r = c.digit_run-run.ensures.answer in
    let more = eqb-false _ _ (sym c.if-not-ends_at.ensures.answer) in
    record { answer = shown_of c.args.start _ (front bs) other (ap (λ n. take n bs) c.cell_len.ensures.answer ∙ front_take bs) (means_other (front bs) (λ e. more (omega (arith, r.long, e))) (no_digits bs _ _ r more)) }

pub returns-then-run-eq0 : goal.returns-then-run-eq0
returns-then-run-eq0 c =
    let bs = c.args.rest.now in
    let r = c.digit_run-run.ensures.answer in
    let ends = eqb-true _ _ (sym c.if-not-ends_at.ensures.answer) in
    record { answer = shown_of c.args.start _ (front bs) empty (whole bs _ _ r ends) (means_empty (front bs) (omega (arith, r.long, ends, c.if-run-eq0.true))) }

pub returns-then-has_leading_zero : goal.returns-then-has_leading_zero
returns-then-has_leading_zero c =
    let bs = c.args.rest.now in
    let r = c.digit_run-run.ensures.answer in
    let ends = eqb-true _ _ (sym c.if-not-ends_at.ensures.answer) in
    let w = whole bs _ _ r ends in
    record { answer = shown_of c.args.start _ (front bs) other w (means_zero (front bs) (λ e. c.if-run-eq0.false (omega (arith, r.long, ends, e))) (omega (arith, r.long, ends, r.few)) (ap (λ t. eqb (get_or t 0 0) 48 && ltb 1 (length t)) (sym w) ∙ sym c.if-has_leading_zero.ensures.answer)) }

pub returns : goal.returns
returns c =
    let bs = c.args.rest.now in
    let r = c.digit_run-run.ensures.answer in
    let ends = eqb-true _ _ (sym c.if-not-ends_at.ensures.answer) in
    let w = whole bs _ _ r ends in
    record { answer = shown_of c.args.start _ (front bs) (number c.digit_run-run.result.value) w (means_number (front bs) (λ e. c.if-run-eq0.false (omega (arith, r.long, ends, e))) (omega (arith, r.long, ends, r.few)) _ (ap (λ t. eqb (get_or t 0 0) 48 && ltb 1 (length t)) (sym w) ∙ sym c.if-has_leading_zero.ensures.answer) (digits bs _ _ r ends)) }
