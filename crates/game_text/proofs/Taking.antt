-- A builder takes what accepted lines say.
use Rattle.std.proofs.Common.{◌≡◌, ℕ, ◌+◌, ◌-◌, ◌<◌, ◌≤◌, List, [], ◌∷◌, ◌++◌, reverse, length, map, get_or, take, drop, ℤ, pos, refl, sym, ap, subst, ◌∙◌, arith, ◌⊎◌}
use Rattle.std.specs.Prelude.{slice_index_or, ◌+ℤ◌, ◌≤ℤ◌}
use mathlib.Core.List.{reverse-cons}
use Rattle.std.specs.List.{AllByRecursion}
use Rattle.std.proofs.lemmas.Int.{ints}
use Rattle.std.proofs.lemmas.List.{get_or_at, length-reverse, length_push, drop_more, take_all, drop_all}
use Rattle.game_model.specs.declared.parts.Shape.{Shape}
use Rattle.game_model.specs.declared.parts.Landing.{Landing}
use Rattle.game_model.specs.Game.{GameData, IsShape, IsBelief, IsBefore, row_sum}
use Rattle.game_model.specs.Build.{HasRoom, IsLastRowFull, IsNext, last_landing, landing_of}
use Rattle.game_text.specs.declared.progress.RowEntry.{RowEntry}
use Rattle.game_text.specs.declared.progress.RowEntry.TheVariants as row
use Rattle.game_text.specs.declared.header.Header.{Header}
use Rattle.game_text.specs.Entries.{Entry, End, shape_in}
use Rattle.game_text.specs.Progress.{entry_in, said}
use Rattle.game_text.specs.Header.{said_by}
use Rattle.game_text.specs.Built.{rewards_in, rows_in, IsBuilt, IsEnded, Takes}
use Rattle.game_text.proofs.Runs.{AfterHead, Run, Front, front, Good, IsFullBack, step_front, step_fits, out_front, out_fits, IsStep, IsOut, open_before, open_row, shape_spelled, header_front}
use Rattle.game_text.proofs.Spells.{finished, game_from, sum_reverse}
use Rattle.game_text.proofs.Accept.{rewards_spelled, rows_spelled}
use Rattle.game_text.proofs.Final.{same_fields}
use Rattle.game_text.proofs.Building.{in_order, said_more}

-- the last row of a game in the making

last_is : (rows : List (List Landing)) (last : List Landing) → slice_index_or (in_order (last ∷ rows)) (length (in_order (last ∷ rows)) - 1) [] ≡ reverse last
last_is rows last =
    let R = in_order rows in
    let cut : in_order (last ∷ rows) ≡ R ++ reverse last ∷ [] = reverse-cons (reverse last) (map reverse rows) in
    let counted : length (R ++ reverse last ∷ []) - 1 ≡ length R = omega (arith, length_push R (reverse last)) in
    ap (λ (x : List (List Landing)). slice_index_or x (length x - 1) []) cut
    ∙ ap (λ (n : ℕ). slice_index_or (R ++ reverse last ∷ []) n []) counted
    ∙ get_or_at R (reverse last) [] [] (length R) refl

begun_is : (rows : List (List Landing)) (last : List Landing) → 0 < length (in_order (last ∷ rows))
begun_is rows last = omega (arith, ap length (reverse-cons (reverse last) (map reverse rows)), length_push (in_order rows) (reverse last))

last_landing_is : (m : Landing) (l : List Landing) → last_landing (reverse (m ∷ l)) ≡ m
last_landing_is m l =
    let cut : reverse (m ∷ l) ≡ reverse l ++ m ∷ [] = reverse-cons m l in
    let counted : length (reverse l ++ m ∷ []) - 1 ≡ length (reverse l) = omega (arith, length_push (reverse l) m) in
    ap last_landing cut ∙ ap (λ (n : ℕ). slice_index_or (reverse l ++ m ∷ []) n (landing_of 0 0 (pos 0))) counted ∙ get_or_at (reverse l) m [] (landing_of 0 0 (pos 0)) (length (reverse l)) refl

last_full : (shape : Shape) (kept rs : List ℤ) (rows : List (List Landing)) → AllByRecursion (IsFullBack shape) rows → IsLastRowFull (game_from shape kept rs rows)
last_full shape kept rs [] full = λ begun. absurd (omega (arith, begun))
last_full shape kept rs (last ∷ rows) full = λ begun. ap row_sum (last_is rows last) ∙ sum_reverse last ∙ full.0

takes_step : (shape : Shape) (kept rs : List ℤ) (rows : List (List Landing)) (s a c : ℕ) (r : ℤ) → Good shape (r ∷ rs) ([] ∷ rows) → Takes (game_from shape kept rs rows) (row.Step s a c r)
takes_step shape kept rs rows s a c r good = (omega (arith, good.1, length-reverse rs), good.0.0, last_full shape kept rs rows good.3, good.0.1)

next_is : (l : Landing) (r : List Landing) → AfterHead r l → IsNext (reverse r) l
next_is l [] h = λ some. absurd (omega (arith, some))
next_is l (m ∷ r) h = λ some. subst (λ (x : Landing). IsBefore x l) (sym (last_landing_is m r)) h

takes_out : (shape : Shape) (kept rs : List ℤ) (last : List Landing) (rows : List (List Landing)) (l : Landing) → Good shape rs ((l ∷ last) ∷ rows) → Takes (game_from shape kept rs (last ∷ rows)) (row.Out l)
takes_out shape kept [] last rows l good = absurd good
takes_out shape kept (r ∷ rs) last rows l good =
    let e = last_is rows last in (
      begun_is rows last,
      good.2.0,
      subst (λ (x : List Landing). IsNext x l) (sym e) (next_is l last good.2.1),
      room (row_sum (slice_index_or (in_order (last ∷ rows)) (length (in_order (last ∷ rows)) - 1) [])) (row_sum last) l.weight shape.row_total (ap row_sum e ∙ sum_reverse last) good.2.2,
    )
  where
    room : (x y w t : ℤ) → x ≡ y → (w +ℤ y) ≤ℤ t → (x +ℤ w) ≤ℤ t
    room x y w t e h = omega (arith, ints, e, h)

-- the game that was built so far is that of the entries so far
built_is : (first : List ℤ) (b : List Entry) (g : GameData) (f : Front b) → IsBuilt first b g → game_from f.shape g.first f.rs f.rows ≡ g
built_is first b g f built =
    same_fields g f.shape f.rs f.rows
    (built.shape ∙ ap shape_in f.same ∙ shape_spelled f.shape f.first f.rs f.rows)
    (built.rewards ∙ ap (λ (es : List Entry). reverse (rewards_in es)) f.same ∙ ap reverse (rewards_spelled f.shape f.first f.rs f.rows f.good))
    (built.rows ∙ ap (λ (es : List Entry). reverse (map reverse (rows_in es))) f.same ∙ ap (λ (x : List (List Landing)). reverse (map reverse x)) (rows_spelled f.shape f.first f.rs f.rows f.good))

pub takes : (first : List ℤ) (b : List Entry) (g : GameData) (e : RowEntry) → IsBuilt first b g → Run (entry_in e ∷ b) → Takes g e
takes first b g (row.Step s a c r) built run =
    let f = front b run.1 (open_before b run.0.0) in
    let p = step_front f.shape f.first f.rs f.rows s a c r f.limits f.good (step_fits b f s a c r run.0.1) in
    subst (λ (x : GameData). Takes x (row.Step s a c r)) (built_is first b g f built) (takes_step f.shape g.first f.rs f.rows s a c r p.good)
takes first b g (row.Out l) built run =
    let f = front b run.1 (open_row b run.0.0) in
    let on = subst (λ (x : List Entry). IsStep x ⊎ IsOut x) f.same run.0.0 in
    let p = out_front f.shape f.first f.rs f.rows l f.good on (out_fits b f l run.0.1) in
    let t = takes_out f.shape g.first f.rs p.row p.rest l (subst (λ (x : List (List Landing)). Good f.shape f.rs x) p.after p.good) in
    subst (λ (x : GameData). Takes x (row.Out l)) (built_is first b g f built)
    (subst (λ (x : List (List Landing)). Takes (game_from f.shape g.first f.rs x) (row.Out l)) (sym p.before) t)
takes first b g row.End built run = tt

-- a finished game has no room, and its last row is full
pub finished_full : (first : List ℤ) (entries : List Entry) (g : GameData) → IsBuilt first entries g → IsEnded entries → Run entries → (HasRoom g → ⊥) × IsLastRowFull g
finished_full first entries g built ended run =
    let f = finished ended.0 (subst Run ended.1 run) in
    let F = f.front in
    let b : IsBuilt first (End ∷ ended.0) g = subst (λ (es : List Entry). IsBuilt first es g) ended.1 built in
    let before : IsBuilt first ended.0 g = record { shape = b.shape; divided = b.divided; rewards = b.rewards; rows = b.rows } in
    let same = built_is first ended.0 g F before in
    subst (λ (x : GameData). (HasRoom x → ⊥) × IsLastRowFull x) same
    ((λ room. omega (arith, room, f.whole.count, length-reverse F.rs)), last_full F.shape g.first F.rs F.rows f.whole.full)

-- what is left to add

pub run_tail : (items : List RowEntry) (b : List Entry) → Run (said items b) → Run b
run_tail [] b run = run
run_tail (e ∷ items) b run = (run_tail items (entry_in e ∷ b) run).1

pub left_more : (items : List RowEntry) (i : ℕ) (d : RowEntry) (base : List Entry) → i < length items → said (drop i items) (said (take i items) base) ≡ said (drop (i + 1) items) (said (take (i + 1) items) base)
left_more items i d base lt =
    ap (λ (es : List RowEntry). said es (said (take i items) base)) (drop_more items i d lt)
    ∙ ap (λ (b : List Entry). said (drop (i + 1) items) b) (sym (said_more items i d base lt))

pub takes_next : (first : List ℤ) (items : List RowEntry) (i : ℕ) (d : RowEntry) (base : List Entry) (g : GameData) → i < length items → IsBuilt first (said (take i items) base) g → Run (said (drop i items) (said (take i items) base)) → Takes g (get_or items i d)
takes_next first items i d base g lt built run =
    let all = subst Run (ap (λ (es : List RowEntry). said es (said (take i items) base)) (drop_more items i d lt)) run in
    takes first (said (take i items) base) g (get_or items i d) built (run_tail (drop (i + 1) items) (entry_in (get_or items i d) ∷ said (take i items) base) all)

pub run_all : (items : List RowEntry) (i : ℕ) (base : List Entry) → length items ≤ i → Run (said (drop i items) (said (take i items) base)) → Run (said items base)
run_all items i base le run =
    subst (λ (es : List RowEntry). Run (said es base)) (take_all i items le) (subst (λ (es : List RowEntry). Run (said es (said (take i items) base))) (drop_all i items le) run)

-- the header is one that the builder takes
pub header_taken : (header : Header) → Run (said_by header) → IsShape header.shape × IsBelief header.shape.states header.first.items
header_taken header run =
    let h = header_front header.first.items _ run in
    let same : shape_in (said_by header) ≡ h.shape = ap shape_in h.same in
    (subst IsShape (sym same) h.limits, subst (λ (x : Shape). IsBelief x.states header.first.items) (sym same) h.belief)
