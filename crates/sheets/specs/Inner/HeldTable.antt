-- What the lines and a table in memory stand for.
use Rattle.std.specs.Prelude.{List}
use Rattle.packing.specs.Count.{Line}
use Rattle.sheets.specs.RuleSheet.{Table}
use Rattle.sheets.specs.Inner.TableNumbers.{lines_in, table_in}
use Rattle.sheets.specs.declared.rule_lines.TableLines.{TableLines}
use Rattle.sheets.specs.declared.rule_lines.HeldTable.{HeldTable}

abbrev pub lines_of : TableLines → List Line
lines_of t = lines_in t.cells.now t.n

abbrev pub table_of : HeldTable → Table
table_of t = table_in t.k t.total t.lines.cells.now t.lines.n
