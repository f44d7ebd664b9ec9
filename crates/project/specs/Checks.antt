-- Document 01, "Numbers of the checks": the faults of the checks on files and their parts, each in the document's words. Definitions only.
-- Calls read the editions up to some e: those of document 01 edition 1, the new ones of document 02, Point 10, both.
use Rattle.std.specs.Prelude.{◌≡◌, ◌≢◌, ◌⊎◌, List, [], ℕ, suc, ◌+◌, ◌*◌, ◌<◌, length, get_or, take, drop, replicate}
use Rattle.model.specs.Tasks.{Task, OnCompletePath}
use Rattle.body.specs.Layout.{Body, Layout, InBounds, body_bytes}
use Rattle.project.specs.File.{File, mark, edition, task_count, reserve, bodies_start, offset_of, size_of}

-- "the longest file 7,544" of edition 1; of edition 2 "its longest file is 7,548 bytes": eight bodies of 938 bytes
abbrev pub longest : ℕ → ℕ
longest e = 7540 + 4 * e

-- "file under 8 or over 7,544 bytes"; 7,548 is "check 2's limit in new calls"
abbrev pub Fault2 : ℕ → File → Type 0
Fault2 e s = (length s < 8) ⊎ (longest e < length s)

-- "first four bytes differ"
abbrev pub Fault3 : File → Type 0
Fault3 s = take 4 s ≢ mark

-- outside bounds that begin at 1
abbrev pub Outside : ℕ → ℕ → Type 0
Outside largest x = (x < 1) ⊎ (largest < x)

-- "edition isn't 1"; in new calls "neither" 1 nor 2: the edition k is not one of 1 to e
abbrev pub Fault4 : ℕ → ℕ → Type 0
Fault4 e k = Outside e k

-- "n outside 1 to 16", and in edition 2 outside 1 to 32: in edition k
abbrev pub Fault5 : ℕ → ℕ → Type 0
Fault5 k n = Outside (16 * k) n

-- "t outside 1 to 8"
abbrev pub CountFault : ℕ → Type 0
CountFault t = Outside 8 t

-- "four zero bytes after byte 7 (others, or their absence, are check 6)"
abbrev pub ReserveFault : File → Type 0
ReserveFault s = take (reserve (edition s)) (drop 8 s) ≢ replicate (reserve (edition s)) 0

-- "t outside 1 to 8, or byte 7 not 0"; in edition 2 also what stands after byte 7
abbrev pub Fault6 : File → Type 0
Fault6 s = CountFault (task_count s) ⊎ ((get_or s 7 0 ≢ 0) ⊎ ReserveFault s)

-- "The first body stands at 8 + 4t, each next where the last one ended, and the last ends the file."; in edition 2 "bodies begin at 12 + 4t"
pub record Contents (s : File) : Type 0 where
  pub first : offset_of s 0 ≡ bodies_start (edition s) (task_count s)
  pub next : (j : ℕ) → suc j < task_count s → offset_of s (suc j) ≡ offset_of s j + size_of s j
  pub last : (j : ℕ) → suc j ≡ task_count s → offset_of s j + size_of s j ≡ length s

-- "contents not as above"
abbrev pub Fault7 : File → Type 0
Fault7 s = Contents s → ⊥

-- the body numbered j
abbrev pub body : List Body → ℕ → Body
body bs j = get_or bs j []

-- "a body breaks its layout"
abbrev pub Fault8 : Body → Type 0
Fault8 s = Layout s → ⊥

-- "a block on no complete path", in the task of a body that keeps its layout
abbrev pub Fault9 : Body → Type 0
Fault9 s = (t : Task) × (s ≡ body_bytes t) × InBounds t × (b : ℕ) × (b < length t) × (OnCompletePath t b → ⊥)
