-- No line before the end is refused as one that follows it.
use Rattle.std.proofs.Common.{◌≡◌, ℕ, ◌==◌, Bool, true, false, cond, ◌&&◌, ◌||◌, List, [], ◌∷◌, Option, Some, None, Result, Ok, Err, ℤ, pos, ap, ◌∙◌}
use Rattle.game_model.specs.Limits.{most_belief, most_discount, most_reward, most_row_total}
use Rattle.std.specs.Prelude.{neg_ℤ, ◌+ℤ◌, ◌*ℤ◌, ◌^◌, max, unsigned_abs, int_le, int_lt, nat_lt, codes}
use Rattle.std.specs.List.{list_all}
use Rattle.std.specs.Str.{bytes_eq}
use Rattle.scaled_num.specs.Sums.{sum_of}
use Rattle.text_words.specs.Lines.{Line}
use Rattle.text_words.specs.Forms.{◌>>=◌, number_at, is_within, begins, limited, below_limit, each_within}
use Rattle.text_words.proofs.Numerals.{numbers_after-each}
use Rattle.game_model.specs.declared.parts.Shape.{Shape}
use Rattle.game_model.specs.Game.{triples}
use Rattle.game_text.specs.declared.fault.Kind.{Kind}
use Rattle.game_text.specs.declared.fault.Kind.TheVariants as kinds
use Rattle.game_text.specs.Forms.{within, numbers_after, version_line, discount_within, total_within, state_at, own_at, informed_at, next_triple, full_row, narrow_reward, later_pair, fits_row}
use Rattle.game_text.specs.Entries.{Entry, Version, Size, Total, Discount, First, Step, Out, End, shape_in, begun_in, sum_in, entry_of, version_said, size_said, total_said, discount_said, first_said, step_said, out_said, end_said, row_end_said}
use Rattle.game_text.specs.Reading.{IsUnfinished}
use Rattle.game_text.specs.Steps.{line_at, Halts}

abbrev failed : {A : Type 0} → Kind → Result A Kind
failed kind = Err kind

abbrev Never : {A : Type 0} → Result A Kind → Type 0
Never {A} r = r ≡ failed {A = A} kinds.Trailing → ⊥

abbrev IsOther : Kind → Type 0
IsOther kind = kind ≡ kinds.Trailing → ⊥

kind_of : {A : Type 0} (j k : Kind) → failed {A = A} j ≡ failed {A = A} k → j ≡ k
kind_of j k h = cc

never_fails : {A : Type 0} (kind : Kind) → IsOther kind → Never (failed {A = A} kind)
never_fails {A} kind other h = other (kind_of {A = A} kind kinds.Trailing h)

never_done : {A : Type 0} (x : A) → (let r : Result A Kind = Ok x in r) ≡ failed {A = A} kinds.Trailing → ⊥
never_done x h = absurd cc

never_bind : {A B : Type 0} (m : Result A Kind) (f : A → Result B Kind) → Never m → ((x : A) → Never (f x)) → Never (m >>= f)
never_bind (Ok x) f a b = b x
never_bind {A} {B} (Err k) f a b = λ h. a (ap (failed {A = A}) (kind_of {A = B} k kinds.Trailing h))

never_cond : {A : Type 0} (b : Bool) (x : A) (kind : Kind) → IsOther kind → Never (cond b (Ok x) (failed {A = A} kind))
never_cond true x kind other = never_done x
never_cond false x kind other = never_fails kind other

never_choice : {A : Type 0} (b : Bool) (x y : Result A Kind) → Never x → Never y → Never (cond b x y)
never_choice true x y a c = a
never_choice false x y a c = c

version_other : IsOther kinds.Version
version_other h = cc

shape_other : IsOther kinds.Shape
shape_other h = cc

number_other : IsOther kinds.Number
number_other h = cc

range_other : IsOther kinds.Range
range_other h = cc

order_other : IsOther kinds.Order
order_other h = cc

total_other : IsOther kinds.Total
total_other h = cc

belief_other : IsOther kinds.Belief
belief_other h = cc

wide_other : IsOther kinds.Wide
wide_other h = cc

missing_other : IsOther kinds.Missing
missing_other h = cc

never_numbers : (name : List ℕ) (count : ℕ) (line : Line) → Never (numbers_after name count line)
never_numbers name count line = numbers_after-each Never kinds.Shape kinds.Number name count line (never_fails kinds.Shape shape_other) (never_fails kinds.Number number_other) never_done

never_version : (line : Line) → Never (version_line line)
unfolding version_line
never_version [] = never_fails kinds.Version version_other
never_version (name ∷ []) = never_fails kinds.Version version_other
never_version (name ∷ number ∷ []) = never_cond (bytes_eq name (codes "osposg") && bytes_eq number (codes "1")) tt kinds.Version version_other
never_version (name ∷ number ∷ more ∷ words) = never_fails kinds.Version version_other

never_limited : (low high x : ℤ) → Never (limited kinds.Range low high x)
unfolding limited
never_limited low high x = never_cond (is_within low high x) x kinds.Range range_other

never_within : (low high : ℕ) (x : ℤ) → Never (within low high x)
unfolding within
never_within low high x = never_cond (is_within (pos low) (pos high) x) (unsigned_abs x) kinds.Range range_other

never_below : (limit : ℕ) (x : ℤ) → Never (below_limit kinds.Range limit x)
unfolding below_limit
never_below limit x = never_cond (int_le (pos 0) x && int_lt x (pos limit)) (unsigned_abs x) kinds.Range range_other

never_discount : (over under : ℤ) → Never (discount_within over under)
unfolding discount_within
never_discount over under = never_cond (int_le (pos 0) over && int_lt over under && int_le under (pos most_discount)) (over, under) kinds.Range range_other

never_weights : (ns : List ℤ) → Never (each_within kinds.Range (pos 0) (pos most_belief) ns)
unfolding each_within
never_weights ns = never_cond (list_all (is_within (pos 0) (pos most_belief)) ns) tt kinds.Range range_other

never_total : (ns : List ℤ) → Never (total_within ns)
unfolding total_within
never_total ns = never_cond (is_within (pos 1) (pos most_belief) (sum_of ns)) tt kinds.Belief belief_other

never_next : (shape : Shape) (k s a c : ℕ) → Never (next_triple shape k s a c)
unfolding next_triple
never_next shape k s a c = never_cond ((s == state_at shape k) && (a == own_at shape k) && (c == informed_at shape k)) tt kinds.Order order_other

never_full : (shape : Shape) (k : ℕ) (sum : ℤ) → Never (full_row shape k sum)
unfolding full_row
never_full shape k sum = never_cond ((k == 0) || is_within shape.row_total shape.row_total sum) tt kinds.Total total_other

never_narrow : (shape : Shape) (r : ℤ) → Never (narrow_reward shape r)
unfolding narrow_reward
never_narrow shape r = never_cond (int_le (shape.row_total *ℤ shape.discount.1 *ℤ shape.discount.1 *ℤ pos (max 1 (unsigned_abs r))) (pos (2 ^ 72))) tt kinds.Wide wide_other

never_later : (pair : Option (ℕ × ℕ)) (seen to : ℕ) → Never (later_pair pair seen to)
unfolding later_pair
never_later None seen to = never_done tt
never_later (Some pair) seen to = never_cond (nat_lt pair.0 seen || ((pair.0 == seen) && nat_lt pair.1 to)) tt kinds.Order order_other

never_fits : (shape : Shape) (sum w : ℤ) → Never (fits_row shape sum w)
unfolding fits_row
never_fits shape sum w = never_cond (int_le (sum +ℤ w) shape.row_total) tt kinds.Total total_other

never_step : (shape : Shape) (k : ℕ) (sum : ℤ) (line : Line) → Never (step_said shape k sum line)
unfolding step_said
never_step shape k sum line =
    never_bind (numbers_after (codes "step") 4 line) _ (never_numbers (codes "step") 4 line) λ ns.
    never_bind (below_limit kinds.Range shape.states (number_at ns 0)) _ (never_below shape.states (number_at ns 0)) λ s.
    never_bind (below_limit kinds.Range shape.own_actions (number_at ns 1)) _ (never_below shape.own_actions (number_at ns 1)) λ a.
    never_bind (below_limit kinds.Range shape.informed_actions (number_at ns 2)) _ (never_below shape.informed_actions (number_at ns 2)) λ c.
    never_bind (limited kinds.Range (neg_ℤ (pos most_reward)) (pos most_reward) (number_at ns 3)) _ (never_limited (neg_ℤ (pos most_reward)) (pos most_reward) (number_at ns 3)) λ r.
    never_bind (next_triple shape k s a c) _ (never_next shape k s a c) λ u.
    never_bind (full_row shape k sum) _ (never_full shape k sum) λ v.
    never_bind (narrow_reward shape r) _ (never_narrow shape r) λ w.
    never_done (Step s a c r)

never_out : (shape : Shape) (sum : ℤ) (pair : Option (ℕ × ℕ)) (line : Line) → Never (out_said shape sum pair line)
unfolding out_said
never_out shape sum pair line =
    never_bind (numbers_after (codes "out") 3 line) _ (never_numbers (codes "out") 3 line) λ ns.
    never_bind (below_limit kinds.Range shape.observations (number_at ns 0)) _ (never_below shape.observations (number_at ns 0)) λ o.
    never_bind (below_limit kinds.Range shape.states (number_at ns 1)) _ (never_below shape.states (number_at ns 1)) λ t.
    never_bind (limited kinds.Range (pos 1) shape.row_total (number_at ns 2)) _ (never_limited (pos 1) shape.row_total (number_at ns 2)) λ m.
    never_bind (later_pair pair o t) _ (never_later pair o t) λ u.
    never_bind (fits_row shape sum m) _ (never_fits shape sum m) λ v.
    never_done (Out (record { seen = o; to = t; weight = m }))

never_end : (shape : Shape) (k : ℕ) (sum : ℤ) (line : Line) → Never (end_said shape k sum line)
unfolding end_said
never_end shape k sum line =
    never_bind (numbers_after (codes "end") 0 line) _ (never_numbers (codes "end") 0 line) λ ns.
    never_bind (full_row shape k sum) _ (never_full shape k sum) λ u.
    never_done End

never_size : (line : Line) → Never (size_said line)
unfolding size_said
never_size line =
    never_bind (numbers_after (codes "size") 4 line) _ (never_numbers (codes "size") 4 line) λ ns.
    never_bind (within 1 16 (number_at ns 0)) _ (never_within 1 16 (number_at ns 0)) λ s.
    never_bind (within 1 6 (number_at ns 1)) _ (never_within 1 6 (number_at ns 1)) λ a.
    never_bind (within 1 6 (number_at ns 2)) _ (never_within 1 6 (number_at ns 2)) λ c.
    never_bind (within 1 8 (number_at ns 3)) _ (never_within 1 8 (number_at ns 3)) λ o.
    never_done (Size s a c o)

never_total_line : (line : Line) → Never (total_said line)
unfolding total_said
never_total_line line =
    never_bind (numbers_after (codes "total") 1 line) _ (never_numbers (codes "total") 1 line) λ ns.
    never_bind (limited kinds.Range (pos 1) (pos most_row_total) (number_at ns 0)) _ (never_limited (pos 1) (pos most_row_total) (number_at ns 0)) λ t.
    never_done (Total t)

never_discount_line : (line : Line) → Never (discount_said line)
unfolding discount_said
never_discount_line line =
    never_bind (numbers_after (codes "discount") 2 line) _ (never_numbers (codes "discount") 2 line) λ ns.
    never_bind (discount_within (number_at ns 0) (number_at ns 1)) _ (never_discount (number_at ns 0) (number_at ns 1)) λ d.
    never_done (Discount d.0 d.1)

never_first : (states : ℕ) (line : Line) → Never (first_said states line)
unfolding first_said
never_first states line =
    never_bind (numbers_after (codes "first") states line) _ (never_numbers (codes "first") states line) λ ns.
    never_bind (each_within kinds.Range (pos 0) (pos most_belief) ns) _ (never_weights ns) λ u.
    never_bind (total_within ns) _ (never_total ns) λ v.
    never_done (First ns)

never_version_line : (line : Line) → Never (version_said line)
unfolding version_said
never_version_line line = never_bind (version_line line) _ (never_version line) λ u. never_done Version

never_entry : (before : List Entry) (line : Line) → IsUnfinished before → Never (entry_of before line)
unfolding entry_of row_end_said
never_entry [] line on = never_version_line line
never_entry (Version ∷ b) line on = never_size line
never_entry (Size s a c o ∷ b) line on = never_total_line line
never_entry (Total t ∷ b) line on = never_discount_line line
never_entry (Discount p q ∷ b) line on = never_first (shape_in b).states line
never_entry (First w ∷ b) line on = never_step (shape_in b) (begun_in b) (pos 0) line
never_entry (Step s a c r ∷ b) line on = never_out (shape_in b) (pos 0) None line
never_entry (Out l ∷ b) line on =
    never_choice (begins (codes "out") line) (out_said (shape_in b) (sum_in b +ℤ l.weight) (Some (l.seen, l.to)) line) (row_end_said (shape_in b) (begun_in b) (sum_in b +ℤ l.weight) line)
    (never_out (shape_in b) (sum_in b +ℤ l.weight) (Some (l.seen, l.to)) line)
    (never_choice (begun_in b == triples (shape_in b)) (end_said (shape_in b) (begun_in b) (sum_in b +ℤ l.weight) line) (step_said (shape_in b) (begun_in b) (sum_in b +ℤ l.weight) line)
    (never_end (shape_in b) (begun_in b) (sum_in b +ℤ l.weight) line) (never_step (shape_in b) (begun_in b) (sum_in b +ℤ l.weight) line))
never_entry (End ∷ b) line on = absurd on

never_line : (before : List Entry) (lines : List Line) → IsUnfinished before → Never (line_at before lines)
unfolding line_at
never_line before [] on = never_fails kinds.Missing missing_other
never_line before (line ∷ lines) on = never_bind (entry_of before line) _ (never_entry before line on) λ e. never_done (e, lines)

pub refused_before : (lines : List Line) (number : ℕ) (kind : Kind) → Halts lines number kind → kind ≡ kinds.Trailing → ⊥
refused_before lines number kind r e = never_line r.1 r.2 r.5 (r.6 ∙ ap failed e)
