-- Document 01, "File E and other examples": the tasks of the examples. Definitions only.
use Rattle.std.specs.Prelude.{List, [], ◌∷◌, ℕ}
use Rattle.model.specs.Tasks.{Block, Task}

-- a block with flags 0
abbrev pub basic : List ℕ → List ℕ → Block
basic successors references = record { flags = 0; successors = successors; references = references }

-- a masked block
abbrev pub masked : List ℕ → List ℕ → Block
masked successors references = record { flags = 1; successors = successors; references = references }

-- "the graph in figure 1 of source document 002 (n = 4, block B4 the end)": the paper of Negi, Mitra and Roychoudhury
abbrev pub figure1 : Task
figure1 = basic (1 ∷ 2 ∷ []) (0 ∷ []) ∷ basic (3 ∷ []) (1 ∷ 2 ∷ 3 ∷ []) ∷ basic (3 ∷ []) (4 ∷ 5 ∷ []) ∷ basic (0 ∷ []) (6 ∷ []) ∷ []

-- "one block reading 8, 9, 10, 11"
abbrev pub one_block : Task
one_block = basic [] (8 ∷ 9 ∷ 10 ∷ 11 ∷ []) ∷ []

-- "a fork reading 8, 10 or 8, 9"
abbrev pub a_fork : Task
a_fork = basic (1 ∷ 2 ∷ []) [] ∷ basic (3 ∷ []) (8 ∷ 10 ∷ []) ∷ basic (3 ∷ []) (8 ∷ 9 ∷ []) ∷ basic [] [] ∷ []

-- "Five forks": block 3f goes on to 3f + 1, which reads f, or to 3f + 2, which reads 16 + f; both lead to block 3f + 3
abbrev pub forks : Task
forks =
    basic (1 ∷ 2 ∷ []) [] ∷ basic (3 ∷ []) (0 ∷ []) ∷ basic (3 ∷ []) (16 ∷ [])
    ∷ basic (4 ∷ 5 ∷ []) [] ∷ basic (6 ∷ []) (1 ∷ []) ∷ basic (6 ∷ []) (17 ∷ [])
    ∷ basic (7 ∷ 8 ∷ []) [] ∷ basic (9 ∷ []) (2 ∷ []) ∷ basic (9 ∷ []) (18 ∷ [])
    ∷ basic (10 ∷ 11 ∷ []) [] ∷ basic (12 ∷ []) (3 ∷ []) ∷ basic (12 ∷ []) (19 ∷ [])
    ∷ basic (13 ∷ 14 ∷ []) [] ∷ basic (15 ∷ []) (4 ∷ []) ∷ basic (15 ∷ []) (20 ∷ [])
    ∷ basic [] [] ∷ []

-- the tasks of E, n = 2: "Task 0 loops over memory blocks 0 and 1; task 1 reads 2."
abbrev pub tasks_e : List Task
tasks_e = (basic (0 ∷ []) (0 ∷ 1 ∷ []) ∷ []) ∷ (basic [] (2 ∷ []) ∷ []) ∷ []

-- the tasks of E with byte 18 = 01, where the block of task 0 is masked, and with byte 28 = 01, where that of task 1 is
abbrev pub tasks_masked0 : List Task
tasks_masked0 = (masked (0 ∷ []) (0 ∷ 1 ∷ []) ∷ []) ∷ (basic [] (2 ∷ []) ∷ []) ∷ []

abbrev pub tasks_masked1 : List Task
tasks_masked1 = (basic (0 ∷ []) (0 ∷ 1 ∷ []) ∷ []) ∷ (masked [] (2 ∷ []) ∷ []) ∷ []

-- ---- document 02, Point 5: tasks that share memory blocks

-- n = 1: an empty block, then a block that reads 4; the other task reads 4
abbrev pub tasks_gain : List Task
tasks_gain = (basic (1 ∷ []) [] ∷ basic [] (4 ∷ []) ∷ []) ∷ (basic [] (4 ∷ []) ∷ []) ∷ []

-- n = 2: block 0 reads 0, block 1 reads 0 and 1; the other task reads 2 and 1
abbrev pub tasks_both : List Task
tasks_both = (basic (1 ∷ []) (0 ∷ []) ∷ basic [] (0 ∷ 1 ∷ []) ∷ []) ∷ (basic [] (2 ∷ 1 ∷ []) ∷ []) ∷ []

-- n = 1: a loop over 2; the other task reads 2
abbrev pub tasks_same : List Task
tasks_same = (basic (0 ∷ []) (2 ∷ []) ∷ []) ∷ (basic [] (2 ∷ []) ∷ []) ∷ []

-- ---- document 02, Point 6: preemptions between two references

-- n = 1: one block reads 6 twice; the other task reads 4
abbrev pub tasks_twice : List Task
tasks_twice = (basic [] (6 ∷ 6 ∷ []) ∷ []) ∷ (basic [] (4 ∷ []) ∷ []) ∷ []

-- n = 1: a masked block reads 6, then a block reads 6; the other task reads 4
abbrev pub tasks_entered : List Task
tasks_entered = (masked (1 ∷ []) (6 ∷ []) ∷ basic [] (6 ∷ []) ∷ []) ∷ (basic [] (4 ∷ []) ∷ []) ∷ []

-- ---- document 02, Point 7: interruptions of interruptions

-- n = 2: the tasks of E, and a third task that reads 4
abbrev pub tasks_three : List Task
tasks_three = (basic (0 ∷ []) (0 ∷ 1 ∷ []) ∷ []) ∷ (basic [] (2 ∷ []) ∷ []) ∷ (basic [] (4 ∷ []) ∷ []) ∷ []

-- n = 1: a task reads 0 twice, one reads 1, and one reads nothing
abbrev pub tasks_around : List Task
tasks_around = (basic [] (0 ∷ 0 ∷ []) ∷ []) ∷ (basic [] (1 ∷ []) ∷ []) ∷ (basic [] [] ∷ []) ∷ []

-- n = 1: an empty block, then a block that reads 4; the other task reads 7
abbrev pub tasks_filled : List Task
tasks_filled = (basic (1 ∷ []) [] ∷ basic [] (4 ∷ []) ∷ []) ∷ (basic [] (7 ∷ []) ∷ []) ∷ []
