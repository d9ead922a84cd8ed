-- What a table holds when a row has been put, and what the rows below a count hold. Assumes nothing.
use Prim.Native.Nat.{ℕ, ◌+◌, ◌*◌, ◌<◌}
use mathlib.Core.Path.{◌≡◌, refl}
use mathlib.Core.List.{List, []}
use native.Mathlib.Omega.{arith}
use lib.ListN.{length, get_or, set, length-set}
use lib.Seq.{get_or-set_same}
use borrow.Author.Rules.{read_below}
use Rattle.node_rows.specs.Nodes.{node_row_at}
use Rattle.node_tables.specs.Tables.{Puts}

-- a word of a row of seven, when the later ones are put too
under : (t : List ℕ) (i k a p m s f o x : ℕ) → x < 7 * i → get_or (set (set (set (set (set (set (set t (7 * i) k) (7 * i + 1) a) (7 * i + 2) p) (7 * i + 3) m) (7 * i + 4) s) (7 * i + 5) f) (7 * i + 6) o) x 0 ≡ get_or t x 0
under t i k a p m s f o x h =
    read_below ℕ (set (set (set (set (set (set t (7 * i) k) (7 * i + 1) a) (7 * i + 2) p) (7 * i + 3) m) (7 * i + 4) s) (7 * i + 5) f) (7 * i + 6) x o 0 _ (omega (arith, h)) (read_below ℕ (set (set (set (set (set t (7 * i) k) (7 * i + 1) a) (7 * i + 2) p) (7 * i + 3) m) (7 * i + 4) s) (7 * i + 5) x f 0 _ (omega (arith, h)) (read_below ℕ (set (set (set (set t (7 * i) k) (7 * i + 1) a) (7 * i + 2) p) (7 * i + 3) m) (7 * i + 4) x s 0 _ (omega (arith, h)) (read_below ℕ (set (set (set t (7 * i) k) (7 * i + 1) a) (7 * i + 2) p) (7 * i + 3) x m 0 _ (omega (arith, h)) (read_below ℕ (set (set t (7 * i) k) (7 * i + 1) a) (7 * i + 2) x p 0 _ (omega (arith, h)) (read_below ℕ (set t (7 * i) k) (7 * i + 1) x a 0 _ (omega (arith, h)) (read_below ℕ t (7 * i) x k 0 _ (omega (arith, h)) (refl)))))))

word_0 : (t : List ℕ) (i k a p m s f o : ℕ) → i < 16384 → length t ≡ 114688 → get_or (set (set (set (set (set (set (set t (7 * i) k) (7 * i + 1) a) (7 * i + 2) p) (7 * i + 3) m) (7 * i + 4) s) (7 * i + 5) f) (7 * i + 6) o) (7 * i) 0 ≡ k
word_0 t i k a p m s f o h e = read_below ℕ (set (set (set (set (set (set t (7 * i) k) (7 * i + 1) a) (7 * i + 2) p) (7 * i + 3) m) (7 * i + 4) s) (7 * i + 5) f) (7 * i + 6) (7 * i) o 0 _ (omega arith) (read_below ℕ (set (set (set (set (set t (7 * i) k) (7 * i + 1) a) (7 * i + 2) p) (7 * i + 3) m) (7 * i + 4) s) (7 * i + 5) (7 * i) f 0 _ (omega arith) (read_below ℕ (set (set (set (set t (7 * i) k) (7 * i + 1) a) (7 * i + 2) p) (7 * i + 3) m) (7 * i + 4) (7 * i) s 0 _ (omega arith) (read_below ℕ (set (set (set t (7 * i) k) (7 * i + 1) a) (7 * i + 2) p) (7 * i + 3) (7 * i) m 0 _ (omega arith) (read_below ℕ (set (set t (7 * i) k) (7 * i + 1) a) (7 * i + 2) (7 * i) p 0 _ (omega arith) (read_below ℕ (set t (7 * i) k) (7 * i + 1) (7 * i) a 0 _ (omega arith) (get_or-set_same t (7 * i) k 0 (omega (arith, h, e))))))))

word_1 : (t : List ℕ) (i k a p m s f o : ℕ) → i < 16384 → length t ≡ 114688 → get_or (set (set (set (set (set (set (set t (7 * i) k) (7 * i + 1) a) (7 * i + 2) p) (7 * i + 3) m) (7 * i + 4) s) (7 * i + 5) f) (7 * i + 6) o) (7 * i + 1) 0 ≡ a
word_1 t i k a p m s f o h e = read_below ℕ (set (set (set (set (set (set t (7 * i) k) (7 * i + 1) a) (7 * i + 2) p) (7 * i + 3) m) (7 * i + 4) s) (7 * i + 5) f) (7 * i + 6) (7 * i + 1) o 0 _ (omega arith) (read_below ℕ (set (set (set (set (set t (7 * i) k) (7 * i + 1) a) (7 * i + 2) p) (7 * i + 3) m) (7 * i + 4) s) (7 * i + 5) (7 * i + 1) f 0 _ (omega arith) (read_below ℕ (set (set (set (set t (7 * i) k) (7 * i + 1) a) (7 * i + 2) p) (7 * i + 3) m) (7 * i + 4) (7 * i + 1) s 0 _ (omega arith) (read_below ℕ (set (set (set t (7 * i) k) (7 * i + 1) a) (7 * i + 2) p) (7 * i + 3) (7 * i + 1) m 0 _ (omega arith) (read_below ℕ (set (set t (7 * i) k) (7 * i + 1) a) (7 * i + 2) (7 * i + 1) p 0 _ (omega arith) (get_or-set_same (set t (7 * i) k) (7 * i + 1) a 0 (simp length-set (omega (arith, h, e))))))))

word_2 : (t : List ℕ) (i k a p m s f o : ℕ) → i < 16384 → length t ≡ 114688 → get_or (set (set (set (set (set (set (set t (7 * i) k) (7 * i + 1) a) (7 * i + 2) p) (7 * i + 3) m) (7 * i + 4) s) (7 * i + 5) f) (7 * i + 6) o) (7 * i + 2) 0 ≡ p
word_2 t i k a p m s f o h e = read_below ℕ (set (set (set (set (set (set t (7 * i) k) (7 * i + 1) a) (7 * i + 2) p) (7 * i + 3) m) (7 * i + 4) s) (7 * i + 5) f) (7 * i + 6) (7 * i + 2) o 0 _ (omega arith) (read_below ℕ (set (set (set (set (set t (7 * i) k) (7 * i + 1) a) (7 * i + 2) p) (7 * i + 3) m) (7 * i + 4) s) (7 * i + 5) (7 * i + 2) f 0 _ (omega arith) (read_below ℕ (set (set (set (set t (7 * i) k) (7 * i + 1) a) (7 * i + 2) p) (7 * i + 3) m) (7 * i + 4) (7 * i + 2) s 0 _ (omega arith) (read_below ℕ (set (set (set t (7 * i) k) (7 * i + 1) a) (7 * i + 2) p) (7 * i + 3) (7 * i + 2) m 0 _ (omega arith) (get_or-set_same (set (set t (7 * i) k) (7 * i + 1) a) (7 * i + 2) p 0 (simp length-set (omega (arith, h, e)))))))

word_3 : (t : List ℕ) (i k a p m s f o : ℕ) → i < 16384 → length t ≡ 114688 → get_or (set (set (set (set (set (set (set t (7 * i) k) (7 * i + 1) a) (7 * i + 2) p) (7 * i + 3) m) (7 * i + 4) s) (7 * i + 5) f) (7 * i + 6) o) (7 * i + 3) 0 ≡ m
word_3 t i k a p m s f o h e = read_below ℕ (set (set (set (set (set (set t (7 * i) k) (7 * i + 1) a) (7 * i + 2) p) (7 * i + 3) m) (7 * i + 4) s) (7 * i + 5) f) (7 * i + 6) (7 * i + 3) o 0 _ (omega arith) (read_below ℕ (set (set (set (set (set t (7 * i) k) (7 * i + 1) a) (7 * i + 2) p) (7 * i + 3) m) (7 * i + 4) s) (7 * i + 5) (7 * i + 3) f 0 _ (omega arith) (read_below ℕ (set (set (set (set t (7 * i) k) (7 * i + 1) a) (7 * i + 2) p) (7 * i + 3) m) (7 * i + 4) (7 * i + 3) s 0 _ (omega arith) (get_or-set_same (set (set (set t (7 * i) k) (7 * i + 1) a) (7 * i + 2) p) (7 * i + 3) m 0 (simp length-set (omega (arith, h, e))))))

word_4 : (t : List ℕ) (i k a p m s f o : ℕ) → i < 16384 → length t ≡ 114688 → get_or (set (set (set (set (set (set (set t (7 * i) k) (7 * i + 1) a) (7 * i + 2) p) (7 * i + 3) m) (7 * i + 4) s) (7 * i + 5) f) (7 * i + 6) o) (7 * i + 4) 0 ≡ s
word_4 t i k a p m s f o h e = read_below ℕ (set (set (set (set (set (set t (7 * i) k) (7 * i + 1) a) (7 * i + 2) p) (7 * i + 3) m) (7 * i + 4) s) (7 * i + 5) f) (7 * i + 6) (7 * i + 4) o 0 _ (omega arith) (read_below ℕ (set (set (set (set (set t (7 * i) k) (7 * i + 1) a) (7 * i + 2) p) (7 * i + 3) m) (7 * i + 4) s) (7 * i + 5) (7 * i + 4) f 0 _ (omega arith) (get_or-set_same (set (set (set (set t (7 * i) k) (7 * i + 1) a) (7 * i + 2) p) (7 * i + 3) m) (7 * i + 4) s 0 (simp length-set (omega (arith, h, e)))))

word_5 : (t : List ℕ) (i k a p m s f o : ℕ) → i < 16384 → length t ≡ 114688 → get_or (set (set (set (set (set (set (set t (7 * i) k) (7 * i + 1) a) (7 * i + 2) p) (7 * i + 3) m) (7 * i + 4) s) (7 * i + 5) f) (7 * i + 6) o) (7 * i + 5) 0 ≡ f
word_5 t i k a p m s f o h e = read_below ℕ (set (set (set (set (set (set t (7 * i) k) (7 * i + 1) a) (7 * i + 2) p) (7 * i + 3) m) (7 * i + 4) s) (7 * i + 5) f) (7 * i + 6) (7 * i + 5) o 0 _ (omega arith) (get_or-set_same (set (set (set (set (set t (7 * i) k) (7 * i + 1) a) (7 * i + 2) p) (7 * i + 3) m) (7 * i + 4) s) (7 * i + 5) f 0 (simp length-set (omega (arith, h, e))))

word_6 : (t : List ℕ) (i k a p m s f o : ℕ) → i < 16384 → length t ≡ 114688 → get_or (set (set (set (set (set (set (set t (7 * i) k) (7 * i + 1) a) (7 * i + 2) p) (7 * i + 3) m) (7 * i + 4) s) (7 * i + 5) f) (7 * i + 6) o) (7 * i + 6) 0 ≡ o
word_6 t i k a p m s f o h e = get_or-set_same (set (set (set (set (set (set t (7 * i) k) (7 * i + 1) a) (7 * i + 2) p) (7 * i + 3) m) (7 * i + 4) s) (7 * i + 5) f) (7 * i + 6) o 0 (simp length-set (omega (arith, h, e)))

pub puts_row :
    (t : List ℕ) (i k a p m s f o : ℕ) → i < 16384 → length t ≡ 114688
    → Puts t i (record { kind = k; at = a; parts = p; more = m; spot = s; from = f; to = o }) (set (set (set (set (set (set (set t (7 * i) k) (7 * i + 1) a) (7 * i + 2) p) (7 * i + 3) m) (7 * i + 4) s) (7 * i + 5) f) (7 * i + 6) o)
unfolding node_row_at
puts_row t i k a p m s f o h e = record {
  here = λ d. record {
    kind = word_0 t i k a p m s f o h e d;
    at = word_1 t i k a p m s f o h e d;
    parts = word_2 t i k a p m s f o h e d;
    more = word_3 t i k a p m s f o h e d;
    spot = word_4 t i k a p m s f o h e d;
    from = word_5 t i k a p m s f o h e d;
    to = word_6 t i k a p m s f o h e d;
  };
  below = λ j l. λ d. record {
    kind = under t i k a p m s f o (7 * j) (omega (arith, l)) d;
    at = under t i k a p m s f o (7 * j + 1) (omega (arith, l)) d;
    parts = under t i k a p m s f o (7 * j + 2) (omega (arith, l)) d;
    more = under t i k a p m s f o (7 * j + 3) (omega (arith, l)) d;
    spot = under t i k a p m s f o (7 * j + 4) (omega (arith, l)) d;
    from = under t i k a p m s f o (7 * j + 5) (omega (arith, l)) d;
    to = under t i k a p m s f o (7 * j + 6) (omega (arith, l)) d;
  };
}
