-- Document 01, "The project file", and document 02, Point 10: the head, the contents and the bodies of a file of either edition. Definitions only.
use Rattle.std.specs.Prelude.{List, [], ◌∷◌, ◌++◌, ℕ, zero, suc, ◌+◌, ◌*◌, ◌-◌, length, get_or, take, drop, replicate}
use Rattle.cache.specs.References.{number_at}
use Rattle.body.specs.Layout.{two_bytes, Body}

-- the bytes of a project file
abbrev pub File : Type 0
File = List ℕ

-- "The file begins with the four bytes 43 52 50 44."
abbrev pub mark : List ℕ
mark = 0x43 ∷ 0x52 ∷ 0x50 ∷ 0x44 ∷ []

-- "Byte 4 is the edition, 1."; document 02, Point 10: or 2
abbrev pub edition : File → ℕ
edition s = get_or s 4 0

-- "Byte 5 is n, the cache blocks, 1 to 16."; document 02, Point 10: in edition 2 "n goes to 32"
abbrev pub cache_blocks : File → ℕ
cache_blocks s = get_or s 5 0

-- "Byte 6 is t, the tasks, 1 to 8."
abbrev pub task_count : File → ℕ
task_count s = get_or s 6 0

-- "Edition 2 has four zero bytes after byte 7": how many zero bytes edition e has there, none in edition 1
abbrev pub reserve : ℕ → ℕ
reserve e = 4 * (e - 1)

-- where the contents begin in edition e: at 8 in edition 1, at 12 in edition 2
abbrev pub contents_start : ℕ → ℕ
contents_start e = 4 + 4 * e

-- where the first body of t begins: "The first body stands at 8 + 4t"; in edition 2 "bodies begin at 12 + 4t"
abbrev pub bodies_start : ℕ → ℕ → ℕ
bodies_start e t = contents_start e + 4 * t

-- "Then the contents: for each task a two-byte offset from the file's start and a two-byte length."
abbrev pub offset_of : File → ℕ → ℕ
offset_of s j = number_at s (contents_start (edition s) + 4 * j)

abbrev pub size_of : File → ℕ → ℕ
size_of s j = number_at s (contents_start (edition s) + 4 * j + 2)

-- the body of task j: that many bytes from its offset on
abbrev pub body_of : File → ℕ → Body
body_of s j = take (size_of s j) (drop (offset_of s j) s)

-- the bodies of the tasks from j on, as many as `left`
abbrev pub bodies_from : File → ℕ → ℕ → List Body
bodies_from s zero j = []
bodies_from s (suc left) j = body_of s j ∷ bodies_from s left (suc j)

abbrev pub bodies : File → List Body
bodies s = bodies_from s (task_count s) 0

-- ---- the file of an edition, n and some bodies

abbrev pub joined : List Body → List ℕ
joined [] = []
joined (b ∷ bs) = b ++ joined bs

-- the contents of some bodies, the first of which stands at `at`: "each next where the last one ended"
abbrev pub contents_of : ℕ → List Body → List ℕ
contents_of at [] = []
contents_of at (b ∷ bs) = two_bytes (at ∷ length b ∷ []) ++ contents_of (at + length b) bs

-- what stands ahead of the contents in edition e, for n and t
abbrev pub head_of : ℕ → ℕ → ℕ → List ℕ
head_of e n t = mark ++ (e ∷ n ∷ t ∷ 0 ∷ replicate (reserve e) 0)

-- "The first body stands at 8 + 4t, .. and the last ends the file."
abbrev pub file_in : ℕ → ℕ → List Body → File
file_in e n bs = head_of e n (length bs) ++ (contents_of (bodies_start e (length bs)) bs ++ joined bs)

-- in edition 1
abbrev pub file_of : ℕ → List Body → File
file_of n bs = file_in 1 n bs
