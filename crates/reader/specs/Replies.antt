-- What the reader's reply, with the lent memory, says on paper.
use Rattle.tables.specs.Replies.{examined_told}
use Rattle.files.specs.Rooms.{Rooms}
use Rattle.files.specs.Reader.{Result}
use Rattle.reader.specs.declared.FileRead.{FileRead}

abbrev pub read_as : FileRead → Rooms → Result
read_as r m = record { answer = examined_told r.found; boats = r.boats; pair_bytes = r.pair_bytes; row_words = r.row_words; rooms = m }
