-- What is known of a sink over a writer.
use Rattle.std.specs.Prelude.{ℕ}
use Rattle.gil_io.specs.declared.std_sink.StdSink.{StdSink}

abbrev pub wrapped : {W : Type 0} → StdSink W → W
wrapped sink = sink.writer

-- how often the writer failed, or took nothing
abbrev pub fault_count : {W : Type 0} → StdSink W → ℕ
fault_count sink = sink.faults
