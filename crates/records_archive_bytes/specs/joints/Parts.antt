-- Not needed to check document 01: names that join the code to its definitions.
-- An archive from its parts, and the bytes of one cell, of one row, of one matrix and of one kind of it.
use Rattle.std.specs.Prelude.{ℕ, List, Float}
use Rattle.algebra.specs.Small.{Rows}
use Rattle.adjustment.specs.Adjusted.{Stack}
use Rattle.records.specs.declared.Kind.{Kind}
use Rattle.records.specs.format.Kinds.{width}
use Rattle.records.specs.format.Written.{cell_record, sequence}
use Rattle.records.specs.readers.Archive.{Archive, archive_content}

abbrev pub archive_from : ℕ → ℕ → Rows → Rows → Stack → Rows → Float → Archive
archive_from p N phi phi_a ps w sigma2 = record { coefficients = p; parameters = N; phi = phi; phi_a = phi_a; ps = ps; w = w; sigma2 = sigma2 }

-- kind k, whose fields are z's: the record of a cell; the records of row r of matrix n, of matrix n, and of all its matrices
unfoldable pub cell_bytes : Archive → Kind → ℕ → ℕ → ℕ → ℕ → List ℕ
cell_bytes a z k n r c = cell_record z k n r c (archive_content a k n r c)

unfoldable pub line_bytes : Archive → Kind → ℕ → ℕ → ℕ → List ℕ
line_bytes a z k n r = sequence (width z.column) (cell_bytes a z k n r)

unfoldable pub sheet_bytes : Archive → Kind → ℕ → ℕ → List ℕ
sheet_bytes a z k n = sequence (width z.row) (line_bytes a z k n)

unfoldable pub matrices_bytes : Archive → Kind → ℕ → List ℕ
matrices_bytes a z k = sequence (width z.count) (sheet_bytes a z k)
