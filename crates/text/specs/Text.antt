-- Document 01, "File E and other examples": what the program crpd prints. Definitions only.
use Rattle.std.specs.Prelude.{◌≡◌, cond, List, [], ◌∷◌, ◌++◌, ℕ, zero, suc, ◌+◌, ◌*◌, ◌/◌, ◌%◌, eqb, ltb, length, get_or}
use Rattle.rows.specs.Append.{put}

-- the decimal numeral of x, of at most `left` digits; the digit 0 is byte 48
abbrev pub digits : ℕ → ℕ → List ℕ
digits zero x = []
digits (suc left) x = cond (ltb x 10) ((48 + x) ∷ []) (digits left (x / 10) ++ ((48 + x % 10) ∷ []))

-- the decimal numeral of a two-byte number
unfoldable pub decimal : ℕ → List ℕ
decimal x = digits 5 x

-- ---- the words that are printed, and "every line ends with byte 0A"

-- "cache "
abbrev pub cache_word : List ℕ
cache_word = 0x63 ∷ 0x61 ∷ 0x63 ∷ 0x68 ∷ 0x65 ∷ 0x20 ∷ []

-- " tasks "
abbrev pub tasks_word : List ℕ
tasks_word = 0x20 ∷ 0x74 ∷ 0x61 ∷ 0x73 ∷ 0x6B ∷ 0x73 ∷ 0x20 ∷ []

-- " by "
abbrev pub by_word : List ℕ
by_word = 0x20 ∷ 0x62 ∷ 0x79 ∷ 0x20 ∷ []

-- ": "
abbrev pub colon : List ℕ
colon = 0x3A ∷ 0x20 ∷ []

-- "refused "
abbrev pub refused_word : List ℕ
refused_word = 0x72 ∷ 0x65 ∷ 0x66 ∷ 0x75 ∷ 0x73 ∷ 0x65 ∷ 0x64 ∷ 0x20 ∷ []

-- " task "
abbrev pub task_word : List ℕ
task_word = 0x20 ∷ 0x74 ∷ 0x61 ∷ 0x73 ∷ 0x6B ∷ 0x20 ∷ []

abbrev pub line_end : List ℕ
line_end = 0x0A ∷ []

-- ---- the lines

-- a word, and then a number
unfoldable pub labelled : List ℕ → ℕ → List ℕ
labelled word x = word ++ decimal x

-- a line of two words, each with its number
unfoldable pub two_labelled : List ℕ → ℕ → List ℕ → ℕ → List ℕ
two_labelled first x second y = labelled first x ++ labelled second y ++ line_end

-- "First n and t": `cache 2 tasks 2`
abbrev pub head_line : ℕ → ℕ → List ℕ
head_line n t = two_labelled cache_word n tasks_word t

-- "then preempted task, preempting task, pair number": `0 by 1: 1`
unfoldable pub pair_line : ℕ → ℕ → ℕ → List ℕ
pair_line i j x = decimal i ++ labelled by_word j ++ labelled colon x ++ line_end

-- "A refusal prints one line only, the check and the task it names": `refused 8 task 0`
abbrev pub refusal_line : ℕ → ℕ → List ℕ
refusal_line check task = two_labelled refused_word check task_word task

-- ---- the lines of a table, in which the pair number of i preempted by j stands at place 8 i + j

-- "The diagonal isn't printed"
unfoldable pub pair_text : List ℕ → ℕ → ℕ → List ℕ
pair_text numbers i j = cond (eqb i j) [] (pair_line i j (get_or numbers (8 * i + j) 0))

-- the lines of preempted task i, for as many preempting tasks from j on as `left`
unfoldable pub row_text : List ℕ → ℕ → ℕ → ℕ → List ℕ
row_text numbers i zero j = []
row_text numbers i (suc left) j = pair_text numbers i j ++ row_text numbers i left (suc j)

-- "rows first": the lines of as many preempted tasks from i on as `left`, of t tasks
unfoldable pub rows_text : List ℕ → ℕ → ℕ → ℕ → List ℕ
rows_text numbers t zero i = []
rows_text numbers t (suc left) i = row_text numbers i t 0 ++ rows_text numbers t left (suc i)

abbrev pub pair_lines : ℕ → List ℕ → List ℕ
pair_lines t numbers = rows_text numbers t t 0

-- what is printed for n, t and the table of pair numbers
abbrev pub table_text : ℕ → ℕ → List ℕ → List ℕ
table_text n t numbers = head_line n t ++ pair_lines t numbers

-- ---- text in a list

-- `after` is the list `before` with the text from `at` on and all else as it was, and the text ends at `end`
abbrev pub Placed : List ℕ → ℕ → List ℕ → List ℕ → ℕ → Type 0
Placed before at text after end = (end ≡ at + length text) × (after ≡ put before at text)
