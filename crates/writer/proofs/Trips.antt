-- What `write` writes is read with the same n, number of tasks and bodies, and an accepted file written again is itself.
-- The idea: the writer's file is `file_of`, whose round trips are those of the project file.
use mathlib.Core.Path.{◌≡◌, refl, sym, ap, ◌∙◌}
use mathlib.Core.Bool.{false, ◌||◌}
use mathlib.Core.List.{List, [], ◌∷◌, ◌++◌, map}
use Prim.Native.Nat.{ℕ, suc, ◌*◌, ◌≤◌}
use native.Mathlib.Omega.{arith}
use lib.Dec.{ltb}
use lib.ListN.{length, take, drop, length-append}
use lib.Seq.{take_at, take-append_seam, drop-append_seam}
use borrow.Author.Tests.{eq-eqb, ltb-false, le-ltb}
use Rattle.std.specs.Prelude.{Ok}
use Rattle.project.specs.File.{edition, cache_blocks, task_count, bodies, joined, file_in}
use Rattle.project.specs.Reading.{test4, test5, count_test, tasks_check, Reading, reading_up_to}
use Rattle.project.specs.Writing.{total, cut, file_length, writer_check_in, writing_in, out_in}
use Rattle.project.proofs.TaskFaults.{Bytes}
use Rattle.project.proofs.RoundTrips.{length-file, length-bodies, file-bodies}
use Rattle.project.proofs.Accepted.{or_false_left, passing_up_to, accepted_up_to, written_accepted, written_again}
use Rattle.writer.proofs.PutLaws.{length_cut, joined-cut}
use Rattle.writer.proofs.CheckLaws.{written, all-passed, at_none, answer_written}
use Rattle.project.proofs.Checklists.{answered_ok}

-- ---- what is written is read

-- an accepted n and t, as an answer
abbrev accepted_with : ℕ → ℕ → Reading
accepted_with n t = Ok (record { n = n; t = t })

module _ (k n : ℕ) (s ls out : List ℕ) (some : 1 ≤ k) where
  written_passed : (l : ℕ) → writing_in k n s ls out ≡ Ok l → (writer_check_in k n s ls out ≡ Ok tt) × (l ≡ file_length k s ls)
  written_passed l e =
      let (q, same) = answered_ok (writer_check_in k n s ls out) (file_length k s ls) e in
      (q, sym same)

  pub length_written : total ls ≡ length s → length (file_in k n (cut s ls)) ≡ file_length k s ls
  length_written e = length-file k n (cut s ls) some ∙ rw (length_cut s ls, joined-cut s ls e)

  -- the counted bytes are the file
  pub written_file : (l : ℕ) → writing_in k n s ls out ≡ Ok l → take l (out_in k n s ls out) ≡ file_in k n (cut s ls)
  written_file l e =
      let (q, el) = written_passed l e in
      let p = all-passed k n s ls out q in
      rw (el, q) (take_at (file_in k n (cut s ls)) (drop (file_length k s ls) out) (file_length k s ls) (length_written p.sum))

-- what is written in an edition that is read is accepted, with its n, as many tasks as lengths, and the bodies cut from the joined ones
pub written_read : (e k n : ℕ) (s ls out : List ℕ) (l : ℕ) → test4 e k ≡ false → writing_in k n s ls out ≡ Ok l
    → (reading_up_to e (take l (out_in k n s ls out)) ≡ Ok (record { n = n; t = length ls })) × (bodies (take l (out_in k n s ls out)) ≡ cut s ls)
written_read e k n s ls out l e4 w =
    let some = ltb-false k 1 (or_false_left (ltb k 1) (ltb e k) e4) in
    let p = all-passed k n s ls out (written_passed k n s ls out some l w).0 in
    let f = written_file k n s ls out some l w in
    let t6 : count_test (length (cut s ls)) ≡ false = rw (length_cut s ls) p.past.0.1 in (
      rw f (written_accepted e k n (cut s ls) e4 p.past.0.0 t6 p.tasks ∙ ap (λ (t : ℕ). accepted_with n t) (length_cut s ls)),
      rw f (file-bodies k n (cut s ls) some),
    )

-- ---- what is read is written again

-- the lengths of some bodies
abbrev pub lengths : List (List ℕ) → List ℕ
lengths bs = map (λ (b : List ℕ). length b) bs

cut-joined : (bs : List (List ℕ)) → cut (joined bs) (lengths bs) ≡ bs
cut-joined [] = refl
cut-joined (b ∷ bs) = rw (take-append_seam b (joined bs), drop-append_seam b (joined bs), cut-joined bs)

total-joined : (bs : List (List ℕ)) → total (lengths bs) ≡ length (joined bs)
total-joined [] = refl
total-joined (b ∷ bs) = omega (arith, length-append b (joined bs), total-joined bs)

length_lengths : (bs : List (List ℕ)) → length (lengths bs) ≡ length bs
length_lengths [] = refl
length_lengths (b ∷ bs) = ap suc (length_lengths bs)

within : (x high : ℕ) → 1 ≤ x → x ≤ high → (ltb x 1 || ltb high x) ≡ false
within x high a b = rw (le-ltb x 1 a, le-ltb high x b)

-- bodies that pass the checks are written, joined and with their lengths, as their file
pub written_back : (k n : ℕ) (bs : List (List ℕ)) (out : List ℕ) → 1 ≤ k → test5 k n ≡ false → count_test (length bs) ≡ false → tasks_check bs ≡ Ok tt → length (file_in k n bs) ≤ length out
    → (writing_in k n (joined bs) (lengths bs) out ≡ Ok (length (file_in k n bs))) × (take (length (file_in k n bs)) (out_in k n (joined bs) (lengths bs) out) ≡ file_in k n bs)
written_back k n bs out some e5 e6 ok room =
    let s = joined bs in
    let ls = lengths bs in
    let same = cut-joined bs in
    let long : file_length k s ls ≡ length (file_in k n bs) = omega (arith, length-file k n bs some, length_lengths bs) in
    let t6 : count_test (length ls) ≡ false = rw (length_lengths bs) e6 in
    let fit = eq-eqb (total ls) (length s) (total-joined bs) in
    let q = at_none k n s ls out ((e5, t6), fit) (ap tasks_check same ∙ ok) (omega arith) in
    let (a, b) = answer_written k n s ls out q refl refl in (
      sym a ∙ ap written long,
      ap (take (length (file_in k n bs))) (sym b ∙ ap (λ x. file_in k n x ++ drop (file_length k s ls) out) same) ∙ take-append_seam (file_in k n bs) (drop (file_length k s ls) out),
    )

-- an accepted file, written again in its edition, is itself
pub read_written : (e : ℕ) (f : List ℕ) (n t : ℕ) (out : List ℕ) → Bytes f → reading_up_to e f ≡ Ok (record { n = n; t = t }) → length f ≤ length out
    → (writing_in (edition f) n (joined (bodies f)) (lengths (bodies f)) out ≡ Ok (length f))
    × (take (length f) (out_in (edition f) n (joined (bodies f)) (lengths (bodies f)) out) ≡ f)
read_written e f n t out h a room =
    let (q, en, et) = accepted_up_to e f (record { n = n; t = t }) a in
    let p = passing_up_to e f q in
    let k = edition f in
    let many = length-bodies f (task_count f) 0 in
    let again : file_in k n (bodies f) ≡ f = ap (λ x. file_in k x (bodies f)) en ∙ written_again e f h p in
    let e5 : test5 k n ≡ false = rw en (within (cache_blocks f) (16 * k) p.n_low p.n_high) in
    let e6 : count_test (length (bodies f)) ≡ false = rw many (within (task_count f) 8 p.t_low p.t_high) in
    let (x, y) = written_back k n (bodies f) out p.k_low e5 e6 p.tasks (omega (arith, ap length again)) in (
      x ∙ ap (λ (z : List ℕ). written (length z)) again,
      ap (λ z. take (length z) (out_in k n (joined (bodies f)) (lengths (bodies f)) out)) (sym again) ∙ y ∙ again,
    )
