-- The bound of the values, and that written rows read back, whatever is answered.
use Rattle.sheets.proofs.ReadingBack.{reads_back}
use Rattle.sheets.proofs.Small.{sheet_small}
use Rattle.sheets.proofs.whole.count_rows.Goals as goal

pub returns-in_err-sheet-clause-round_trip : goal.returns-in_err-sheet-clause-round_trip
returns-in_err-sheet-clause-round_trip g c = reads_back g.K.SheetKind.table g.met.K.SheetKind.names_apart g.met.K.SheetKind.plain

pub returns-in_err-_row-clause-round_trip : goal.returns-in_err-_row-clause-round_trip
returns-in_err-_row-clause-round_trip g c = reads_back g.K.SheetKind.table g.met.K.SheetKind.names_apart g.met.K.SheetKind.plain

pub returns-clause-law : goal.returns-clause-law
returns-clause-law g c = sheet_small g.K.SheetKind.table c.args.bytes.now

pub returns-clause-round_trip : goal.returns-clause-round_trip
returns-clause-round_trip g c = reads_back g.K.SheetKind.table g.met.K.SheetKind.names_apart g.met.K.SheetKind.plain
