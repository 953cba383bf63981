-- What is known of a source over a reader.
use Rattle.std.specs.Prelude.{ℕ}
use Rattle.gil_io.specs.declared.std_source.StdSource.{StdSource}

abbrev pub wrapped : {R : Type 0} → StdSource R → R
wrapped source = source.reader

-- how often the reader failed
abbrev pub fault_count : {R : Type 0} → StdSource R → ℕ
fault_count source = source.faults
