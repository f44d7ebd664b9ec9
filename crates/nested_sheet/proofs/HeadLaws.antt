-- The head of a run and the point in front of it, in the code's words: the answers of `head_end` and `point_kept`, and what a kept head says.
-- The idea: each answer is the definition at the first number that decides it.
use mathlib.Core.Path.{◌≡◌, sym, ◌∙◌}
use mathlib.Core.Bool.{Bool, true, false}
use mathlib.Core.List.{List}
use Prim.Native.Nat.{ℕ, ◌+◌, ◌-◌, ◌*◌, ◌%◌, ◌^◌, ◌≤◌, ◌<◌}
use native.Mathlib.Omega.{arith}
use lib.Bits.{bit_and}
use lib.ListN.{length, get_or, take, drop}
use borrow.Author.Tests.{lt-ltb, le-ltb, le-leb, lt-leb}
use Rattle.cache.specs.Sets.{in_set}
use Rattle.cache.proofs.Members.{in_word, out_word}
use Rattle.sheet.specs.Parsed.{path_test, not_before}
use Rattle.sheet.proofs.RuleLaws.{path_in_part}
use Rattle.std.specs.Prelude.{Ok, Err}
use Rattle.nested_sheet.specs.declared.rules.SheetFault.TheVariants.{Rules, Nesting}
use Rattle.nested_sheet.specs.Reading.{End, head_end, point_test, EndsIn}

-- ---- the head

module _ (t around : ℕ) (s : List ℕ) (at : ℕ) where
  -- the answer r of the code is that of the definition, and lies in the sheet
  abbrev Answer : End → Type 0
  Answer r = (r ≡ head_end t around s at) × EndsIn s at r

  pub head_none : length s ≤ at → Answer (Err Rules)
  head_none h = (rw (le-ltb at (length s) h), tt)

  module _ {p : ℕ} (there : at < length s) (ep : p ≡ get_or s at 0) where
    pub head_absent : t ≤ p → Answer (Err Rules)
    head_absent h =
        let h' : t ≤ get_or s at 0 = omega arith in
        (rw (lt-ltb at (length s) there, le-ltb (get_or s at 0) t h'), tt)

    module _ (few : t ≤ 8) (l : p < t) where
      small : get_or s at 0 < t
      small = omega arith

      pub head_around : (bit_and around (1 * 2 ^ p % 2 ^ 32) ≡ 0 → ⊥) → Answer (Err Nesting)
      head_around q = (rw (lt-ltb at (length s) there, lt-ltb (get_or s at 0) t small, rw ep at (in_word 32 around p (omega arith) q)), tt)

      module _ (q : bit_and around (1 * 2 ^ p % 2 ^ 32) ≡ 0) where
        outside : in_set around (get_or s at 0) ≡ false
        outside = rw ep at (out_word 32 around p (omega arith) q)

        pub head_short : length s ≤ at + 1 → Answer (Err Rules)
        head_short h = (rw (lt-ltb at (length s) there, lt-ltb (get_or s at 0) t small, outside, le-ltb (at + 1) (length s) h), tt)

        module _ {long : ℕ} {b : Bool} (two : at + 1 < length s) (el : long ≡ get_or s (at + 1) 0)
            (eb : b ≡ path_test long (take (length s - (at + 2)) (drop (at + 2) s))) where
          test : (b' : Bool) → b ≡ b' → path_test (get_or s (at + 1) 0) (drop (at + 2) s) ≡ b'
          test b' e = sym (path_in_part s (at + 2) (get_or s (at + 1) 0) el eb) ∙ e

          pub head_path : b ≡ false → Answer (Err Rules)
          head_path e =
              (rw (lt-ltb at (length s) there, lt-ltb (get_or s at 0) t small, outside, lt-ltb (at + 1) (length s) two, test false e), tt)

          module _ (e : b ≡ true) where
            pub head_no_count : length s ≤ at + 2 + long → Answer (Err Rules)
            head_no_count h =
                let h' : length s ≤ at + 2 + get_or s (at + 1) 0 = omega arith in (
                  rw (
                    lt-ltb at (length s) there,
                    lt-ltb (get_or s at 0) t small,
                    outside,
                    lt-ltb (at + 1) (length s) two,
                    test true e,
                    le-ltb (at + 2 + get_or s (at + 1) 0) (length s) h',
                  ),
                  tt,
                )

            module _ {count : ℕ} (h : at + 2 + long < length s) (ec : count ≡ get_or s (at + 2 + long) 0) where
              ec' : count ≡ get_or s (at + 2 + get_or s (at + 1) 0) 0
              ec' = rw el at ec

              h' : at + 2 + get_or s (at + 1) 0 < length s
              h' = omega arith

              pub head_many : 16 < count → Answer (Err Rules)
              head_many m =
                  let m' : 16 < get_or s (at + 2 + get_or s (at + 1) 0) 0 = omega (arith, ec') in (
                    rw (
                      lt-ltb at (length s) there,
                      lt-ltb (get_or s at 0) t small,
                      outside,
                      lt-ltb (at + 1) (length s) two,
                      test true e,
                      lt-ltb (at + 2 + get_or s (at + 1) 0) (length s) h',
                      lt-leb (get_or s (at + 2 + get_or s (at + 1) 0) 0) 16 m',
                    ),
                    tt,
                  )

              pub head_kept : count ≤ 16 → Answer (Ok (at + 2 + long + 1))
              head_kept m =
                  let m' : get_or s (at + 2 + get_or s (at + 1) 0) 0 ≤ 16 = omega (arith, ec') in
                  let n : at + 2 + long + 1 ≡ at + 3 + get_or s (at + 1) 0 = omega arith in (
                    rw (
                      lt-ltb at (length s) there,
                      lt-ltb (get_or s at 0) t small,
                      outside,
                      lt-ltb (at + 1) (length s) two,
                      test true e,
                      lt-ltb (at + 2 + get_or s (at + 1) 0) (length s) h',
                      le-leb (get_or s (at + 2 + get_or s (at + 1) 0) 0) 16 m',
                      n,
                    ),
                    (omega arith, omega arith),
                  )

-- ---- the point

module _ (s : List ℕ) (long i d at : ℕ) where
  pub point_none : length s < at + 2 → false ≡ point_test s long i d at
  point_none h = rw (lt-leb (at + 2) (length s) h)

  module _ {position : ℕ} (there : at + 2 ≤ length s) (ep : position ≡ get_or s at 0) where
    pub point_outside : long ≤ position → false ≡ point_test s long i d at
    point_outside h =
        let h' : long ≤ get_or s at 0 = omega arith in
        rw (le-leb (at + 2) (length s) there, le-ltb (get_or s at 0) long h')

    pub point_order : {done : ℕ} {r : Bool} → position < long → done ≡ get_or s (at + 1) 0 → r ≡ not_before i d position done → r ≡ point_test s long i d at
    point_order h ed e =
        let h' : get_or s at 0 < long = omega arith in
        e ∙ rw (le-leb (at + 2) (length s) there, lt-ltb (get_or s at 0) long h', ep, ed)
