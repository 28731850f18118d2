-- The bytes of a chain of entries are the text of its game.
use Rattle.std.proofs.Common.{◌≡◌, ℕ, zero, suc, ◌+◌, ◌*◌, ◌/◌, ◌%◌, ◌<◌, List, [], ◌∷◌, ◌++◌, reverse, length, map, get_or, ℤ, pos, refl, sym, ap, ◌∙◌, arith, append_assoc, append-nil}
use Rattle.std.specs.Prelude.{flat_map, codes}
use mathlib.Core.List.{reverse-cons}
use Rattle.std.proofs.lemmas.List.{get_or_append_left, get_or_at, length-reverse}
use Rattle.std.proofs.lemmas.List.Concat.{flat_map-append}
use Rattle.std.proofs.Math.Arith.{digits_div, digits_mod}
use Rattle.scaled_num.specs.Sums.{below}
use Rattle.text_words.specs.Lines.{line_text}
use Rattle.text_words.proofs.Whole.{lines_text}
use Rattle.game_model.specs.declared.parts.Shape.{Shape}
use Rattle.game_model.specs.declared.parts.Landing.{Landing}
use Rattle.game_model.specs.Game.{GameData, triples, triple}
use Rattle.game_text.specs.Forms.{state_at, own_at, informed_at}
use Rattle.game_text.specs.Text.{landing_line, step_line, row_text, rows_text, header_text, text_of}
use Rattle.text_words.specs.Spelled.{line_of}
use Rattle.game_text.specs.Entries.{Entry, Version, Size, Total, Discount, First, Out, End}
use Rattle.game_text.proofs.Said.{words_in}
use Rattle.game_text.proofs.Runs.{header, step_of, outs, spelled, Good}
use Rattle.game_text.proofs.Spells.{game_from, same_length, length_map}
use Rattle.text_words.proofs.Texts.{flat_below, flat_push}

abbrev pub entry_text : Entry → List ℕ
entry_text e = line_text (words_in e)

-- the bytes of entries of which the latest stands first
abbrev pub back_text : List Entry → List ℕ
back_text entries = flat_map entry_text (reverse entries)

back_more : (e : Entry) (b : List Entry) → back_text (e ∷ b) ≡ back_text b ++ entry_text e
back_more e b =
    ap (flat_map entry_text) (reverse-cons e b) ∙ flat_map-append entry_text (reverse b) (e ∷ []) ∙ ap (λ (l : List ℕ). back_text b ++ l) (append-nil (entry_text e))

landings_more : (l : Landing) (row : List Landing) → flat_map landing_line (reverse (l ∷ row)) ≡ flat_map landing_line (reverse row) ++ landing_line l
landings_more l row =
    ap (flat_map landing_line) (reverse-cons l row) ∙ flat_map-append landing_line (reverse row) (l ∷ []) ∙ ap (λ (x : List ℕ). flat_map landing_line (reverse row) ++ x) (append-nil (landing_line l))

back_outs : (row : List Landing) (b : List Entry) → back_text (outs row b) ≡ back_text b ++ flat_map landing_line (reverse row)
back_outs [] b = sym (append-nil (back_text b))
back_outs (l ∷ row) b =
    back_more (Out l) (outs row b)
    ∙ ap (λ (x : List ℕ). x ++ landing_line l) (back_outs row b)
    ∙ append_assoc (back_text b) (flat_map landing_line (reverse row)) (landing_line l)
    ∙ ap (λ (x : List ℕ). back_text b ++ x) (sym (landings_more l row))

-- the bytes of the row of this number
abbrev row_bytes : Shape → List ℤ → List (List Landing) → ℕ → List ℕ
row_bytes shape rewards rows k =
    step_line (state_at shape k) (own_at shape k) (informed_at shape k) (get_or rewards k (pos 0)) ++ flat_map landing_line (get_or rows k [])

back_row : (shape : Shape) (k : ℕ) (r : ℤ) (row : List Landing) (b : List Entry)
    → back_text (outs row (step_of shape k r ∷ b)) ≡ back_text b ++ (step_line (state_at shape k) (own_at shape k) (informed_at shape k) r ++ flat_map landing_line (reverse row))
back_row shape k r row b =
    back_outs row (step_of shape k r ∷ b)
    ∙ ap (λ (x : List ℕ). x ++ flat_map landing_line (reverse row)) (back_more (step_of shape k r) b)
    ∙ append_assoc (back_text b) (step_line (state_at shape k) (own_at shape k) (informed_at shape k) r) (flat_map landing_line (reverse row))

abbrev pub rows_in_order : List (List Landing) → List (List Landing)
rows_in_order rows = reverse (map reverse rows)

row_before : (shape : Shape) (r : ℤ) (rs : List ℤ) (row : List Landing) (rows : List (List Landing)) (k : ℕ) → k < length rs → length rows ≡ length rs
    → row_bytes shape (reverse (r ∷ rs)) (rows_in_order (row ∷ rows)) k ≡ row_bytes shape (reverse rs) (rows_in_order rows) k
row_before shape r rs row rows k lt same =
    let a : get_or (reverse (r ∷ rs)) k (pos 0) ≡ get_or (reverse rs) k (pos 0) =
    ap (λ (l : List ℤ). get_or l k (pos 0)) (reverse-cons r rs) ∙ get_or_append_left (reverse rs) (r ∷ []) (pos 0) k (omega (arith, length-reverse rs)) in
    let b : get_or (rows_in_order (row ∷ rows)) k [] ≡ get_or (rows_in_order rows) k [] =
    ap (λ (l : List (List Landing)). get_or l k []) (reverse-cons (reverse row) (map reverse rows))
    ∙ get_or_append_left (rows_in_order rows) (reverse row ∷ []) [] k (omega (arith, length-reverse (map reverse rows), length_map reverse rows)) in
    ap (λ (x : ℤ). step_line (state_at shape k) (own_at shape k) (informed_at shape k) x ++ flat_map landing_line (get_or (rows_in_order (row ∷ rows)) k [])) a
    ∙ ap (λ (x : List Landing). step_line (state_at shape k) (own_at shape k) (informed_at shape k) (get_or (reverse rs) k (pos 0)) ++ flat_map landing_line x) b

row_last : (shape : Shape) (r : ℤ) (rs : List ℤ) (row : List Landing) (rows : List (List Landing)) → length rows ≡ length rs
    → row_bytes shape (reverse (r ∷ rs)) (rows_in_order (row ∷ rows)) (length rs) ≡ step_line (state_at shape (length rs)) (own_at shape (length rs)) (informed_at shape (length rs)) r ++ flat_map landing_line (reverse row)
row_last shape r rs row rows same =
    let k = length rs in
    let a : get_or (reverse (r ∷ rs)) k (pos 0) ≡ r = ap (λ (l : List ℤ). get_or l k (pos 0)) (reverse-cons r rs) ∙ get_or_at (reverse rs) r [] (pos 0) k (length-reverse rs) in
    let b : get_or (rows_in_order (row ∷ rows)) k [] ≡ reverse row =
    ap (λ (l : List (List Landing)). get_or l k []) (reverse-cons (reverse row) (map reverse rows))
    ∙ get_or_at (rows_in_order rows) (reverse row) [] [] k (omega (arith, length-reverse (map reverse rows), length_map reverse rows)) in
    ap (λ (x : ℤ). step_line (state_at shape k) (own_at shape k) (informed_at shape k) x ++ flat_map landing_line (get_or (rows_in_order (row ∷ rows)) k [])) a
    ∙ ap (λ (x : List Landing). step_line (state_at shape k) (own_at shape k) (informed_at shape k) r ++ flat_map landing_line x) b

spelled_bytes : (shape : Shape) (first rs : List ℤ) (rows : List (List Landing)) → Good shape rs rows
    → back_text (spelled shape first rs rows) ≡ back_text (header shape first) ++ flat_map (row_bytes shape (reverse rs) (rows_in_order rows)) (below (length rs))
spelled_bytes shape first [] [] good = sym (append-nil (back_text (header shape first)))
spelled_bytes shape first [] (row ∷ rows) good = absurd good
spelled_bytes shape first (r ∷ rs) [] good = absurd good
spelled_bytes shape first (r ∷ rs) (row ∷ rows) good =
    let same = same_length shape rs rows good.4 in
    let old = row_bytes shape (reverse rs) (rows_in_order rows) in
    let new = row_bytes shape (reverse (r ∷ rs)) (rows_in_order (row ∷ rows)) in
    let n = length rs in
    let L = step_line (state_at shape n) (own_at shape n) (informed_at shape n) r ++ flat_map landing_line (reverse row) in
    let H = back_text (header shape first) in
    let kept : flat_map old (below n) ≡ flat_map new (below n) = flat_below old new n (λ i lt. sym (row_before shape r rs row rows i lt same)) in
    back_row shape n r row (spelled shape first rs rows)
    ∙ ap (λ (x : List ℕ). x ++ L) (spelled_bytes shape first rs rows good.4)
    ∙ append_assoc H (flat_map old (below n)) L
    ∙ ap (λ (x : List ℕ). H ++ x) (ap (λ (x : List ℕ). x ++ L) kept ∙ ap (λ (x : List ℕ). flat_map new (below n) ++ x) (sym (row_last shape r rs row rows same)) ∙ sym (flat_push new n))

-- the rows by their triples

below_add : (h : ℕ → List ℕ) (a b : ℕ) → flat_map h (below (a + b)) ≡ flat_map h (below a) ++ flat_map (λ j. h (a + j)) (below b)
below_add h a zero = let e : a + 0 ≡ a = omega arith in ap (λ (x : ℕ). flat_map h (below x)) e ∙ sym (append-nil (flat_map h (below a)))
below_add h a (suc b) =
    let e : a + suc b ≡ suc (a + b) = omega arith in
    ap (λ (x : ℕ). flat_map h (below x)) e ∙ flat_push h (a + b) ∙ ap (λ (x : List ℕ). x ++ h (a + b)) (below_add h a b)
    ∙ append_assoc (flat_map h (below a)) (flat_map (λ j. h (a + j)) (below b)) (h (a + b))
    ∙ ap (λ (x : List ℕ). flat_map h (below a) ++ x) (sym (flat_push (λ j. h (a + j)) b))

grid : (h : ℕ → List ℕ) (m n : ℕ) → flat_map (λ i. flat_map (λ j. h (i * n + j)) (below n)) (below m) ≡ flat_map h (below (m * n))
grid h zero n = let e : 0 ≡ 0 * n = omega arith in ap (λ (x : ℕ). flat_map h (below x)) e
grid h (suc m) n =
    let e : m * n + n ≡ suc m * n = omega arith in
    flat_push (λ i. flat_map (λ j. h (i * n + j)) (below n)) m
    ∙ ap (λ (x : List ℕ). x ++ flat_map (λ j. h (m * n + j)) (below n)) (grid h m n)
    ∙ sym (below_add h (m * n) n)
    ∙ ap (λ (x : ℕ). flat_map h (below x)) e

row_is : (g : GameData) (s a c : ℕ) → a < g.shape.own_actions → c < g.shape.informed_actions → row_text g s a c ≡ row_bytes g.shape g.rewards g.rows (triple g.shape s a c)
row_is g s a c la lc =
    let A = g.shape.own_actions in
    let C = g.shape.informed_actions in
    let k = triple g.shape s a c in
    let round : k / C ≡ s * A + a = digits_div (s * A + a) lc in
    let st : state_at g.shape k ≡ s = ap (λ (x : ℕ). x / A) round ∙ digits_div s la in
    let ow : own_at g.shape k ≡ a = ap (λ (x : ℕ). x % A) round ∙ digits_mod s la in
    let inf : informed_at g.shape k ≡ c = digits_mod (s * A + a) lc in
    rw (st, ow, inf) refl

rows_bytes : (g : GameData) → rows_text g ≡ flat_map (row_bytes g.shape g.rewards g.rows) (below (triples g.shape))
rows_bytes g =
    let A = g.shape.own_actions in
    let C = g.shape.informed_actions in
    let h = row_bytes g.shape g.rewards g.rows in
    let cell : (s a : ℕ) → a < A → flat_map (λ c. row_text g s a c) (below C) ≡ flat_map (λ c. h ((s * A + a) * C + c)) (below C) = λ s a la. flat_below (λ c. row_text g s a c) (λ c. h ((s * A + a) * C + c)) C (λ c lc. row_is g s a c la lc) in
    let line : (s : ℕ) → flat_map (λ a. flat_map (λ c. row_text g s a c) (below C)) (below A) ≡ flat_map (λ a. flat_map (λ c. h ((s * A + a) * C + c)) (below C)) (below A) = λ s. flat_below (λ a. flat_map (λ c. row_text g s a c) (below C)) (λ a. flat_map (λ c. h ((s * A + a) * C + c)) (below C)) A (cell s) in
    flat_below (λ s. flat_map (λ a. flat_map (λ c. row_text g s a c) (below C)) (below A)) (λ s. flat_map (λ a. flat_map (λ c. h ((s * A + a) * C + c)) (below C)) (below A)) g.shape.states (λ s l. line s)
    ∙ grid (λ i. flat_map (λ c. h (i * C + c)) (below C)) g.shape.states A
    ∙ grid h (g.shape.states * A) C

header_bytes : (g : GameData) (first : List ℤ) → back_text (header g.shape first) ≡ header_text g first
header_bytes g first =
    five (entry_text Version) (entry_text (Size g.shape.states g.shape.own_actions g.shape.informed_actions g.shape.observations)) (entry_text (Total g.shape.row_total))
    (entry_text (Discount g.shape.discount.0 g.shape.discount.1)) (entry_text (First first))
  where
    five : (v s t d f : List ℕ) → v ++ (s ++ (t ++ (d ++ (f ++ [])))) ≡ v ++ (s ++ (t ++ (d ++ f)))
    five v s t d f = ap (λ (x : List ℕ). v ++ (s ++ (t ++ (d ++ x)))) (append-nil f)

pub whole_bytes : (shape : Shape) (kept first rs : List ℤ) (rows : List (List Landing)) → Good shape rs rows → length rs ≡ triples shape
    → back_text (End ∷ spelled shape first rs rows) ≡ text_of (game_from shape kept rs rows) first
whole_bytes shape kept first rs rows good count =
    let g = game_from shape kept rs rows in
    back_more End (spelled shape first rs rows)
    ∙ ap (λ (x : List ℕ). x ++ line_of (codes "end") []) (spelled_bytes shape first rs rows good)
    ∙ append_assoc (back_text (header shape first)) (flat_map (row_bytes shape (reverse rs) (rows_in_order rows)) (below (length rs))) (line_of (codes "end") [])
    ∙ ap (λ (x : List ℕ). x ++ (flat_map (row_bytes shape (reverse rs) (rows_in_order rows)) (below (length rs)) ++ line_of (codes "end") [])) (header_bytes g first)
    ∙ ap (λ (x : List ℕ). header_text g first ++ (x ++ line_of (codes "end") [])) (ap (λ (n : ℕ). flat_map (row_bytes shape (reverse rs) (rows_in_order rows)) (below n)) count ∙ sym (rows_bytes g))

-- lines of words
lines_words : (entries : List Entry) → lines_text (map words_in entries) ≡ flat_map entry_text entries
lines_words [] = refl
lines_words (e ∷ entries) = ap (λ (x : List ℕ). entry_text e ++ x) (lines_words entries)

pub lines_back : (entries : List Entry) → lines_text (map words_in (reverse entries)) ≡ back_text entries
lines_back entries = lines_words (reverse entries)
