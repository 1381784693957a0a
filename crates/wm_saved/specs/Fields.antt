-- The fields of an object of a layout file, one by one: which values each may have, what a missing one means, and which paths are at fault.
use Rattle.std.specs.Prelude.{ℕ, suc, Bool, ◌&&◌, nat_le, if◌then◌else◌, List, [], ◌∷◌, length, Option, Some, None, option_and_then, Ok, codes, decimal, ⊤}
use Rattle.std.specs.Str.{bytes_eq}
use Rattle.serde_json.specs.Data.{Data, Items, no_items, item}
use Rattle.serde_json.specs.Find.{get, as_array, as_number, as_str, as_u64}
use Rattle.wm_base.specs.declared.plan.Border.{Border}
use Rattle.wm_base.specs.declared.plan.Border.TheVariants as borders
use Rattle.wm_base.specs.declared.plan.Layout.{Layout}
use Rattle.wm_base.specs.declared.plan.Layout.TheVariants.{SplitH, SplitV, Stacked, Tabbed}
use Rattle.wm_saved.specs.Answers.{Answer, ◌>>=◌, below, or_bad}
use Rattle.wm_saved.specs.declared.fields.Frame.{Frame}
use Rattle.wm_saved.specs.declared.fields.Frame.TheVariants as frames

-- ---- values

-- a text that is one of these words
abbrev pub word_in : {A : Type 0} → List (List ℕ × A) → List ℕ → Option A
word_in [] s = None
word_in (w ∷ ws) s = if bytes_eq s w.0 then Some w.1 else word_in ws s

-- a border is "normal", "pixel" or "none"
abbrev pub frame_in : Data → Option Frame
frame_in d = option_and_then (word_in ((codes "normal", frames.Normal) ∷ (codes "pixel", frames.Pixel) ∷ (codes "none", frames.Bare) ∷ [])) (as_str d)

-- a layout is "splith", "splitv", "stacked" or "tabbed"
abbrev pub layout_in : Data → Option Layout
layout_in d = option_and_then (word_in ((codes "splith", SplitH) ∷ (codes "splitv", SplitV) ∷ (codes "stacked", Stacked) ∷ (codes "tabbed", Tabbed) ∷ [])) (as_str d)

-- a type is "con"
abbrev pub type_in : Data → Option ⊤
type_in d = option_and_then (word_in ((codes "con", tt) ∷ [])) (as_str d)

-- a border's width is a whole number from 0 to 64, written without a point and without an exponent
abbrev pub width_in : Data → Option ℕ
width_in d = option_and_then (λ n. if nat_le n 64 then Some n else None) (option_and_then as_u64 (as_number d))

-- a name is a text of at most 1,024 bytes
abbrev pub text_in : Data → Option (List ℕ)
text_in d = option_and_then (λ s. if nat_le (length s) 1024 then Some s else None) (as_str d)

-- a mark may have 1 to 256 bytes
abbrev pub is_fit_mark : List ℕ → Bool
is_fit_mark s = nat_le 1 (length s) && nat_le (length s) 256

-- a mark is such a text
abbrev pub mark_in : Data → Option (List ℕ)
mark_in d = option_and_then (λ s. if is_fit_mark s then Some s else None) (as_str d)

-- ---- fields

-- what a field is read as: as this where it is missing, else by its rule
abbrev pub found : {A : Type 0} → List ℕ → A → (Data → Option A) → Option Data → Answer A
found path missing rule None = Ok missing
found path missing rule (Some d) = or_bad path (rule d)

-- the field of a key of the object at a path
abbrev pub field : {A : Type 0} → List ℕ → List ℕ → A → (Data → Option A) → Data → Answer A
field path key missing rule d = found (below path key) missing rule (get key d)

-- an array's items by a rule, from the place i on
abbrev pub items_from : {A : Type 0} → (List ℕ → Data → Answer A) → List ℕ → ℕ → Items → Answer (List A)
items_from rule path i no_items = Ok []
items_from rule path i (item d ds) = rule (below path (decimal i)) d >>= λ x. items_from rule path (suc i) ds >>= λ xs. Ok (x ∷ xs)

-- an array by a rule for its items; no array is at fault
abbrev pub array_of : {A : Type 0} → (List ℕ → Data → Answer A) → List ℕ → Option Items → Answer (List A)
array_of rule path None = or_bad path None
array_of rule path (Some ds) = items_from rule path 0 ds

-- the same of a field, empty where it is missing
abbrev pub found_array : {A : Type 0} → (List ℕ → Data → Answer A) → List ℕ → Option Data → Answer (List A)
found_array rule path None = Ok []
found_array rule path (Some d) = array_of rule path (as_array d)

abbrev pub array_field : {A : Type 0} → (List ℕ → Data → Answer A) → List ℕ → List ℕ → Data → Answer (List A)
array_field rule path key d = found_array rule (below path key) (get key d)

-- ---- one by one

-- a border of this kind and width; none has no width
abbrev pub bordered : Frame → ℕ → Border
bordered frames.Normal n = borders.Normal n
bordered frames.Pixel n = borders.Pixel n
bordered frames.Bare n = borders.Bare

-- a normal border where nothing else is said, 2 pixels wide
abbrev pub border_of : List ℕ → Data → Answer Border
border_of path d =
    field path (codes "border") frames.Normal frame_in d
    >>= λ frame. field path (codes "current_border_width") 2 width_in d
    >>= λ width. Ok (bordered frame width)

-- side by side where nothing else is said
abbrev pub layout_of : List ℕ → Data → Answer Layout
layout_of path d = field path (codes "layout") SplitH layout_in d

abbrev pub mark_at : List ℕ → Data → Answer (List ℕ)
mark_at path d = or_bad path (mark_in d)

abbrev pub marks_of : List ℕ → Data → Answer (List (List ℕ))
marks_of path d = array_field mark_at path (codes "marks") d

abbrev pub name_of : List ℕ → Data → Answer (List ℕ)
name_of path d = field path (codes "name") [] text_in d

abbrev pub type_of : List ℕ → Data → Answer ⊤
type_of path d = field path (codes "type") tt type_in d
