-- What the forms in memory hold, and which of their calls fail.
use Rattle.std.specs.Prelude.{ℕ, ◌+◌, ◌<◌, ◌⊎◌, List, [], Option, Some, None, IsTrue, IsNone, min, max, length, drop, unwrap_or, if◌then◌else◌}
use Rattle.vmv_edge.specs.declared.calls.Calls.{Calls}
use Rattle.vmv_edge.specs.declared.memory_shelf.MemoryShelf.{MemoryShelf}
use Rattle.vmv_edge.specs.declared.memory_shelf.FaultlessShelf.{FaultlessShelf}
use Rattle.vmv_edge.specs.declared.memory_sink.MemorySink.{MemorySink}
use Rattle.vmv_edge.specs.declared.memory_sink.FaultlessSink.{FaultlessSink}
use Rattle.vmv_edge.specs.declared.memory_link.MemoryLink.{MemoryLink}
use Rattle.vmv_edge.specs.declared.memory_link.FaultlessLink.{FaultlessLink}
use Rattle.vmv_edge.specs.Calls.{is_to_fail}
use Rattle.vmv_edge.specs.Held.{text_under}

-- the text that a shelf holds under a name
abbrev pub held : MemoryShelf → List ℕ → Option (List ℕ)
held shelf = text_under shelf.entries.items

abbrev pub reads : MemoryShelf → Calls
reads shelf = shelf.calls

-- the next read is to fail, or the name isn't held
abbrev pub ReadFails : MemoryShelf → List ℕ → Type 0
ReadFails shelf name = IsTrue (is_to_fail (reads shelf)) ⊎ IsNone (held shelf name)

-- the text that a shelf that never fails gives for a name
abbrev pub given : FaultlessShelf → List ℕ → List ℕ
given shelf name = unwrap_or (text_under shelf.entries.items name) []

-- the bytes that a sink has taken
abbrev pub kept : MemorySink → List ℕ
kept sink = sink.room.bytes.items

abbrev pub writes : MemorySink → Calls
writes sink = sink.calls

-- how many bytes a sink was made for
abbrev pub size_of : MemorySink → ℕ
size_of sink = sink.room.size

-- the most bytes that one write takes
abbrev pub most_of : MemorySink → ℕ
most_of sink = sink.most

-- how many bytes of a piece the next write takes
abbrev pub share : MemorySink → List ℕ → ℕ
share sink piece = min (length piece) (most_of sink)

-- the next write is to fail, or goes past the room
abbrev pub WriteFails : MemorySink → List ℕ → Type 0
WriteFails sink piece = IsTrue (is_to_fail (writes sink)) ⊎ (size_of sink < length (kept sink) + share sink piece)

-- the bytes that a sink that never fails has taken, where all fitted into its room
abbrev pub shown : FaultlessSink → Option (List ℕ)
shown sink = if sink.full then None else Some sink.room.bytes.items

-- how many bytes a sink that never fails was made for
abbrev pub whole_size_of : FaultlessSink → ℕ
whole_size_of sink = sink.room.size

-- the bytes that a link has still to give
abbrev pub unread : MemoryLink → List ℕ
unread link = drop link.stock.given link.stock.bytes.items

-- the bytes that were written to a link
abbrev pub sent : MemoryLink → List ℕ
sent link = link.room.bytes.items

abbrev pub link_calls : MemoryLink → Calls
link_calls link = link.calls

-- how many bytes a link was made for
abbrev pub sent_size_of : MemoryLink → ℕ
sent_size_of link = link.room.size

-- the most bytes of one call
abbrev pub call_size_of : MemoryLink → ℕ
call_size_of link = link.most

-- how many bytes the next read gives for so much room
abbrev pub read_share : MemoryLink → ℕ → ℕ
read_share link len = min (min len (max (call_size_of link) 1)) (length (unread link))

-- how many bytes of a piece the next write takes
abbrev pub write_share : MemoryLink → List ℕ → ℕ
write_share link piece = min (length piece) (call_size_of link)

-- the next write is to fail, or goes past the room
abbrev pub SendFails : MemoryLink → List ℕ → Type 0
SendFails link piece = IsTrue (is_to_fail (link_calls link)) ⊎ (sent_size_of link < length (sent link) + write_share link piece)

-- the bytes that a link that never fails has still to give
abbrev pub whole_unread : FaultlessLink → List ℕ
whole_unread link = drop link.stock.given link.stock.bytes.items

-- the bytes that were written to it, where all fitted into its room
abbrev pub whole_sent : FaultlessLink → Option (List ℕ)
whole_sent link = if link.full then None else Some link.room.bytes.items

-- how many bytes a link that never fails was made for
abbrev pub whole_sent_size_of : FaultlessLink → ℕ
whole_sent_size_of link = link.room.size
