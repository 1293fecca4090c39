-- Not needed to check document 01: names that join the code to its definitions.
-- The sizes of a file, and its reader as far as the file alone says it.
use Rattle.std.specs.Prelude.{ℕ, List, []}
use Rattle.records.specs.declared.Sizes.{Sizes}
use Rattle.records.specs.declared.Shape.{Shape}
use Rattle.records.specs.declared.Shape.TheVariants.{Series, Test, Archived, Second}
use Rattle.records.specs.format.Kinds.{kinds_of}
use Rattle.records.specs.readers.Reader.{Reader}
use Rattle.records.specs.readers.Series.{sizes as seriesSizes}
use Rattle.records.specs.readers.Parameters.{sizes as parameterSizes}
use Rattle.records.specs.readers.Archive.{sizes as archiveSizes}
use Rattle.records.specs.readers.SecondFile.{sizes as secondSizes}

abbrev pub sizes_of : Shape → List ℕ → Sizes
sizes_of Series s = seriesSizes s
sizes_of Test s = parameterSizes s
sizes_of Archived s = archiveSizes s
sizes_of Second s = secondSizes s

-- by its length, its order and its form: of each of these files it is what its own reader says before its own reasons
abbrev pub reader_of : Shape → ℕ → Reader
reader_of file w = record { kinds = λ z. kinds_of file z; limit = w; sizes = λ s. sizes_of file s; own = λ s. [] }
