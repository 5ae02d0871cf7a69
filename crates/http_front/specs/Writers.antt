-- What contracts see of two writers that take replies and notes.
use Rattle.http_front.specs.declared.writer_replies.WriterReplies.{WriterReplies}

-- the writer that takes replies and other texts
abbrev pub out_of : {W N : Type 0} → WriterReplies W N → W
out_of r = r.out

-- the writer that takes notes
abbrev pub notes_of : {W N : Type 0} → WriterReplies W N → N
notes_of r = r.notes
