-- Laws of the inverse: a matrix beside the identity, eliminated, and solved back.
use Prim.Native.Nat.{ℕ, ◌+◌, ◌-◌, ◌*◌, ◌<◌, ◌≤◌}
use native.Mathlib.Omega.{arith}
use native.Mathlib.Decide.{dec_lt}
use mathlib.Core.Path.{◌≡◌, sym, ap, ◌∙◌}
use mathlib.Core.Bool.{Bool, cond}
use mathlib.Core.List.{List}
use mathlib.Core.Logic.{◌⊎◌, inl, inr, ⊎_elim}
use lib.Dec.{ltb, eqb}
use lib.ListN.{get_or, set, length, length-set}
use lib.Seq.{get_or-set_same, get_or-set_other}
use lib.Ieee.{Float, nan}
use borrow.Author.Tests.{lt-ltb, le-ltb, eq-eqb, ne_eqb}
use Rattle.arithmetic.specs.Numbers.{plus_zero, one}
use Rattle.algebra.specs.Kind.{floats}
use Rattle.algebra.specs.Product.{at, identity}
use Rattle.algebra.specs.Elimination.{back_to, eliminate_to, joined, solution, inverse, inverse_refused, refused}
use native.Mathlib.Nat.{le_of_eq}
use Rattle.algebra.proofs.TableLaws.{table_at, length-table}
use Rattle.algebra.proofs.EliminationLaws.{refused-diagonal}
use Rattle.algebra_large.specs.joints.Slab.{rows_at, put_row, put_rows, zero_on_diagonal, Holds, Apart}
use Rattle.algebra_large.specs.joints.Steps.{joined_cell}
use Rattle.algebra_large.proofs.SlabLaws.{put_row-is, put_row-at, put_row-other, length-put_row, fill-apart, rows_at-at, Shape, shape-table}
use Rattle.algebra_large.proofs.InPlace.{same?, read-now, put-turn}
use Rattle.algebra_large_inverse.proofs.EliminationLaws.{shape-eliminate}

-- a row: the matrix's, and the identity's
pub join-row : (e b n i g : ℕ) (xs ys zs : List Float) → e + (n + n) ≤ length xs → i < n → ys ≡ put_row e n (λ j. get_or xs (b + j) nan) xs → g ≡ e + n
    → zs ≡ put_row g n (λ j. plus_zero) ys → set zs (g + i) one ≡ put_row e (n + n) (joined_cell n xs b i) xs
unfolding joined_cell
join-row e b n i g xs ys zs hl hi ey eg ez =
    put_row-is e (n + n) (joined_cell n xs b i) xs (set zs (g + i) one) hl (length-set zs (g + i) one ∙ long-z ∙ long-y) (λ j hj. cell j hj (dec_lt j n) (same? i (j - n)))
    (λ x o.
    get_or-set_other zs (g + i) x one nan (λ q. o (n + i) (omega arith) (omega arith))
    ∙ ap (λ (l : List Float). get_or l x nan) ez ∙ put_row-other g n (λ j. plus_zero) ys x (λ k hk q. o (n + k) (omega arith) (omega arith))
    ∙ ap (λ (l : List Float). get_or l x nan) ey ∙ put_row-other e n (λ j. get_or xs (b + j) nan) xs x (λ k hk q. o k (omega arith) q))
  where
    long-y : length ys ≡ length xs
    long-y = ap length ey ∙ length-put_row e n (λ j. get_or xs (b + j) nan) xs

    long-z : length zs ≡ length ys
    long-z = ap length ez ∙ length-put_row g n (λ j. plus_zero) ys

    cell : (j : ℕ) → j < n + n → Dec (j < n) → Dec (i ≡ j - n) → get_or (set zs (g + i) one) (e + j) nan ≡ cond (ltb j n) (get_or xs (b + j) nan) (cond (eqb i (j - n)) one plus_zero)
    cell j hj (yes l) w =
        rw (lt-ltb j n l)
        (get_or-set_other zs (g + i) (e + j) one nan (λ q. omega arith)
        ∙ ap (λ (l : List Float). get_or l (e + j) nan) ez ∙ put_row-other g n (λ j. plus_zero) ys (e + j) (λ k hk q. omega arith)
        ∙ ap (λ (l : List Float). get_or l (e + j) nan) ey ∙ put_row-at e n (λ j. get_or xs (b + j) nan) xs j l (omega arith))
    cell j hj (no l) (yes w) =
        let q : e + j ≡ g + i = omega arith in
        rw (le-ltb j n (omega arith), eq-eqb i (j - n) w, q) (get_or-set_same zs (g + i) one nan (omega (arith, long-z, long-y)))
    cell j hj (no l) (no w) =
        let q : e + j ≡ g + (j - n) = omega arith in
        rw (le-ltb j n (omega arith), ne_eqb i (j - n) w, q)
        (get_or-set_other zs (g + i) (g + (j - n)) one nan (λ z. w (omega arith))
        ∙ ap (λ (l : List Float). get_or l (g + (j - n)) nan) ez ∙ put_row-at g n (λ j. plus_zero) ys (j - n) (omega arith) (omega (arith, long-y)))

-- row i of the two matrices side by side, where the rows before it stand
pub joined-row : (m : List (List Float)) (s a u p n i b : ℕ) (xs ys : List Float) → Apart a (n * s) p (n * u) → n + n ≤ s → n ≤ u → i < n → b ≡ p + i * u
    → ys ≡ put_rows s a i (n + n) m xs → (j : ℕ) → j < n + n
    → joined_cell n ys b i j ≡ at floats (joined floats n (n + n) n n (rows_at u p n n xs) (identity floats n n n)) i j
unfolding joined_cell joined identity
joined-row m s a u p n i b xs ys h hs hu hi eb ey j hj =
    go (dec_lt j n)
    ∙ sym (table_at plus_zero n (n + n) n (n + n) (λ i j. cond (ltb j n) (at floats l i j) (at floats (identity floats n n n) i (j - n))) i j nan hi hj (omega arith) (omega arith))
  where
    l : List (List Float)
    l = rows_at u p n n xs

    go : Dec (j < n) → cond (ltb j n) (get_or ys (b + j) nan) (cond (eqb i (j - n)) one plus_zero) ≡ cond (ltb j n) (at floats l i j) (at floats (identity floats n n n) i (j - n))
    go (yes w) =
        rw (lt-ltb j n w)
        (ap (λ (x : ℕ). get_or ys (x + j) nan) eb ∙ fill-apart s a n i (n + n) u p n n m xs ys h (omega arith) hs hu ey i j hi w ∙ sym (rows_at-at u p n n xs i j hi w))
    go (no w) =
        rw (le-ltb j n (omega arith))
        (sym (table_at plus_zero n n n n (λ i j. cond (eqb i j) one plus_zero) i (j - n) nan hi (omega arith) (omega arith) (omega arith)))

pub shape-joined : (n : ℕ) (a b : List (List Float)) → Shape n (n + n) (joined floats n (n + n) n n a b)
unfolding joined
shape-joined n a b = shape-table plus_zero n (n + n) (λ i j. cond (ltb j n) (at floats a i j) (at floats b i (j - n)))

-- what the work area holds after elimination
pub eliminated : (s a n : ℕ) (k : List (List Float)) (xs ys zs : List Float) → Holds s a n (n + n) (length xs) → Shape n (n + n) k
    → ys ≡ put_rows s a n (n + n) k xs → zs ≡ put_rows s a n (n + n) (eliminate_to floats n n (n + n) (rows_at s a n (n + n) ys)) ys
    → zs ≡ put_rows s a n (n + n) (eliminate_to floats n n (n + n) k) xs
eliminated s a n k xs ys zs h q ey ez = put-turn (eliminate_to floats n n (n + n)) s a n (n + n) k xs ys zs h q ey ez

pub eliminated-rows : (s a n : ℕ) (k : List (List Float)) (xs zs : List Float) → Holds s a n (n + n) (length xs) → Shape n (n + n) k
    → zs ≡ put_rows s a n (n + n) (eliminate_to floats n n (n + n) k) xs → rows_at s a n (n + n) zs ≡ eliminate_to floats n n (n + n) k
eliminated-rows s a n k xs zs h q ez =
    read-now s a n (n + n) (eliminate_to floats n n (n + n) k) xs zs h (shape-eliminate n (omega arith) q) ez

-- the inverse stands at d, and the work area holds the eliminated rows
pub invert-done : (t d s a n : ℕ) (l : List (List Float)) (xs ys zs us : List Float) → Holds s a n (n + n) (length xs)
    → ys ≡ put_rows s a n (n + n) (joined floats n (n + n) n n l (identity floats n n n)) xs
    → zs ≡ put_rows s a n (n + n) (eliminate_to floats n n (n + n) (rows_at s a n (n + n) ys)) ys
    → us ≡ put_rows t d n n (back_to floats n n n n n (rows_at s a n (n + n) zs)) zs
    → us ≡ put_rows t d n n (inverse floats n (n + n) n n l) (put_rows s a n (n + n) (eliminate_to floats n n (n + n) (joined floats n (n + n) n n l (identity floats n n n))) xs)
unfolding solution
invert-done t d s a n l xs ys zs us h ey ez eu =
    let k : List (List Float) = joined floats n (n + n) n n l (identity floats n n n) in
    let q : Shape n (n + n) k = shape-joined n l (identity floats n n n) in
    let w : zs ≡ put_rows s a n (n + n) (eliminate_to floats n n (n + n) k) xs = eliminated s a n k xs ys zs h q ey ez in
    eu ∙ ap (λ (x : List (List Float)). put_rows t d n n (back_to floats n n n n n x) zs) (eliminated-rows s a n k xs zs h q w)
    ∙ ap (λ (x : List Float). put_rows t d n n (back_to floats n n n n n (eliminate_to floats n n (n + n) k)) x) w

-- a zero on the diagonal at the end, just where the run that stops is refused
pub singular-done : (s a n : ℕ) (l : List (List Float)) (xs ys zs : List Float) (z : Bool) → Holds s a n (n + n) (length xs)
    → ys ≡ put_rows s a n (n + n) (joined floats n (n + n) n n l (identity floats n n n)) xs
    → zs ≡ put_rows s a n (n + n) (eliminate_to floats n n (n + n) (rows_at s a n (n + n) ys)) ys → z ≡ zero_on_diagonal n (rows_at s a n (n + n) zs)
    → z ≡ inverse_refused floats n (n + n) n n l
unfolding refused zero_on_diagonal joined
singular-done s a n l xs ys zs z h ey ez e =
    let k : List (List Float) = joined floats n (n + n) n n l (identity floats n n n) in
    let q : Shape n (n + n) k = shape-joined n l (identity floats n n n) in
    let m : n ≤ length k = le_of_eq (sym (length-table plus_zero n (n + n) n (n + n) _)) in
    e ∙ ap (λ (x : List (List Float)). zero_on_diagonal n x) (eliminated-rows s a n k xs zs h q (eliminated s a n k xs ys zs h q ey ez))
    ∙ sym (refused-diagonal floats n (n + n) k m)

pub join_apart : {e b n : ℕ} → Apart e (n + n) b n → Apart e n b n
join_apart {e} {b} {n} h = record { apart = ⊎_elim (λ u. inl (omega arith)) (λ u. inr (omega arith)) h.apart }
