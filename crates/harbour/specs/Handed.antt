-- What a C caller is handed of a run, of a pair's rows, and of a file that is read.
use Rattle.std.specs.Prelude.{ℕ, ◌-◌}
use Rattle.std.specs.declared.ops.Range.{Range}
use Rattle.runs.specs.Runs.{Result}
use Rattle.files.specs.Reader.{Result as FileResult}
use Rattle.handing.specs.declared.HarbourReply.{HarbourReply}
use Rattle.handing.specs.declared.HarbourReadReply.{HarbourReadReply}
use Rattle.handing.specs.Handed.{handed, handed_read}
use Rattle.harbour.specs.declared.HarbourPart.{HarbourPart}

abbrev pub handed_run : Result → HarbourReply
handed_run r = handed r.answer r.checks r.trials

-- where the part starts, and how many words it has
abbrev pub handed_part : Range ℕ → HarbourPart
handed_part p = record { start = p.start; length = p.end - p.start }

abbrev pub handed_file : FileResult → HarbourReadReply
handed_file r = handed_read r.answer r.boats r.pair_bytes r.row_words
