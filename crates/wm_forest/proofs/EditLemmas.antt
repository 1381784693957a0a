-- A change of what one node says of itself, or of its marks, keeps what holds of the rows of every tree.
use Rattle.std.proofs.Common.{◌≡◌, ℕ, ◌≤◌, Bool, true, inl, List, Option, None, Some, refl, sym, subst, arith}
use Rattle.wm_base.specs.declared.ids.ConId.{ConId}
use Rattle.wm_base.specs.declared.plan.Layout.{Layout}
use Rattle.wm_forest.specs.declared.kind.KindEdit.{KindEdit}
use Rattle.wm_forest.specs.declared.kind.KindEdit.TheVariants as edits
use Rattle.wm_base.specs.declared.geometry.Edges.{Edges}
use Rattle.wm_base.specs.declared.geometry.Size.{Size}
use Rattle.wm_base.specs.declared.properties.Props.{Props}
use Rattle.wm_forest.specs.declared.part.ConState.{ConState}
use Rattle.wm_forest.specs.Place.{is_tiled}
use Rattle.wm_forest.specs.declared.part.Part.{Part}
use Rattle.wm_forest.specs.declared.part.ConKind.{ConKind}
use Rattle.wm_forest.specs.declared.part.ConKind.TheVariants.{Split, Window, Placeholder}
use Rattle.wm_forest.specs.declared.part.NodeKind.{NodeKind}
use Rattle.wm_forest.specs.declared.part.NodeKind.TheVariants.{Root, Output, Space, Con}
use Rattle.wm_forest.specs.declared.spot.Spot.{Spot}
use Rattle.wm_forest.specs.Forest.{Forest, con}
use Rattle.wm_forest.specs.Change.{at}
use Rattle.wm_forest.specs.Counts.{one_con, one_space, row_with}
use Rattle.wm_forest.specs.Kinds.{changed, filled, kind_changed, laid_out, titled}
use Rattle.wm_forest.specs.Look.{only, in_row, first_kids}
use Rattle.wm_forest.specs.SoundRow.{Level, roots, outputs, spaces, containers, HasKids, HasShare, IsNode, IsSoundRow, ranks}
use Rattle.wm_forest.specs.Spot.{room_below, spot_in, spot_of}
use Rattle.wm_forest.proofs.RowLemmas.{same_row, behind_row, Grows, keeps_by, node_keeps}
use Rattle.wm_forest.proofs.PutLemmas.{Here}

-- what a change needs of its node: a share within its limits, a workspace or output that is there
abbrev pub FitsEdit : KindEdit → Bool → Forest → Type 0
FitsEdit (edits.Share s) tiled kids = HasShare tiled s
FitsEdit (edits.Layout l) tiled kids = Unit {0}
FitsEdit (edits.State s) tiled kids = Unit {0}
FitsEdit (edits.Title t) tiled kids = Unit {0}
FitsEdit (edits.TitleFormat t) tiled kids = Unit {0}
FitsEdit (edits.Fill props owner natural) tiled kids = Unit {0}
FitsEdit (edits.Name n) tiled kids = Unit {0}
FitsEdit (edits.Gaps inner outer) tiled kids = Unit {0}
FitsEdit (edits.Reserved e) tiled kids = Unit {0}
FitsEdit (edits.Shown w) tiled kids = in_row w kids ≡ true
FitsEdit (edits.Current o) tiled kids = in_row o kids ≡ true

abbrev pub FitsEditAt : KindEdit → Option Spot → Forest → Type 0
FitsEditAt edit None kids = Unit {0}
FitsEditAt edit (Some s) kids = FitsEdit edit s.tiled kids

kids_laid_out : (l : Layout) (kind : ConKind) (kids : Forest) → HasKids kind kids → HasKids (laid_out l kind) kids
kids_laid_out l (Split layout last) kids h = h
kids_laid_out l (Window props owner natural) kids h = h
kids_laid_out l (Placeholder props swallows) kids h = h

kids_titled : (t : List ℕ) (kind : ConKind) (kids : Forest) → HasKids kind kids → HasKids (titled t kind) kids
kids_titled t (Split layout last) kids h = h
kids_titled t (Window props owner natural) kids h = h
kids_titled t (Placeholder props swallows) kids h = h

kids_filled : (props : Props) (owner : ℕ) (natural : Size) (kind : ConKind) (kids : Forest) → HasKids kind kids → HasKids (filled props owner natural kind) kids
kids_filled props owner natural (Split layout last) kids h = h
kids_filled props owner natural (Window p o n) kids h = h
kids_filled props owner natural (Placeholder p swallows) kids h = h

changed_con : (edit : KindEdit) (kind : NodeKind) (l : Level) (tiled : Bool) (room : ℕ) (id : ConId) (marks : List (List ℕ)) (kids : Forest) → FitsEdit edit tiled kids
    → IsNode l tiled room id kind marks kids → IsNode l tiled room id (changed edit kind) marks kids
changed_con (edits.Share s) (Con c) containers tiled room id marks kids ok h = (h.0, ok, h.2, h.3)
changed_con (edits.Layout y) (Con c) containers tiled room id marks kids ok h = (h.0, h.1, h.2, kids_laid_out y c.kind kids h.3)
changed_con (edits.Layout y) (Space w) spaces tiled room id marks kids ok h = h
changed_con (edits.State s) (Con c) containers tiled room id marks kids ok h = h
changed_con (edits.Title t) (Con c) containers tiled room id marks kids ok h = (h.0, h.1, h.2, kids_titled t c.kind kids h.3)
changed_con (edits.TitleFormat t) (Con c) containers tiled room id marks kids ok h = h
changed_con (edits.Fill props owner natural) (Con c) containers tiled room id marks kids ok h = (h.0, h.1, h.2, kids_filled props owner natural c.kind kids h.3)
changed_con (edits.Name n) (Space w) spaces tiled room id marks kids ok h = h
changed_con (edits.Gaps inner outer) (Space w) spaces tiled room id marks kids ok h = h
changed_con (edits.Reserved e) (Output o) outputs tiled room id marks kids ok h = h
changed_con (edits.Shown w) (Output o) outputs tiled room id marks kids ok h = (h.0, ok, h.2)
changed_con (edits.Current o) (Root c) roots tiled room id marks kids ok h = (h.0, ok, h.2)
changed_con edit kind l tiled room id marks kids ok h = h

changed_room : (edit : KindEdit) (kind : NodeKind) (room : ℕ) → room_below room (changed edit kind) ≡ room_below room kind
changed_room (edits.Share s) (Con c) room = refl
changed_room (edits.Layout l) (Con c) room = refl
changed_room (edits.Layout l) (Space w) room = refl
changed_room (edits.State s) (Con c) room = refl
changed_room (edits.Title t) (Con c) room = refl
changed_room (edits.TitleFormat t) (Con c) room = refl
changed_room (edits.Fill props owner natural) (Con c) room = refl
changed_room (edits.Name n) (Space w) room = refl
changed_room (edits.Gaps inner outer) (Space w) room = refl
changed_room (edits.Reserved e) (Output o) room = refl
changed_room (edits.Shown w) (Output o) room = refl
changed_room (edits.Current o) (Root c) room = refl
changed_room edit kind room = refl

pub changed_ranks : (edit : KindEdit) (kind : NodeKind) → ranks (changed edit kind) ≡ ranks kind
changed_ranks (edits.Share s) (Con c) = refl
changed_ranks (edits.Layout l) (Con c) = refl
changed_ranks (edits.Layout l) (Space w) = refl
changed_ranks (edits.State s) (Con c) = refl
changed_ranks (edits.Title t) (Con c) = refl
changed_ranks (edits.TitleFormat t) (Con c) = refl
changed_ranks (edits.Fill props owner natural) (Con c) = refl
changed_ranks (edits.Name n) (Space w) = refl
changed_ranks (edits.Gaps inner outer) (Space w) = refl
changed_ranks (edits.Reserved e) (Output o) = refl
changed_ranks (edits.Shown w) (Output o) = refl
changed_ranks (edits.Current o) (Root c) = refl
changed_ranks edit kind = refl

pub changed_one : (edit : KindEdit) (kind : NodeKind) → one_con (changed edit kind) ≡ one_con kind
changed_one (edits.Share s) (Con c) = refl
changed_one (edits.Layout l) (Con c) = refl
changed_one (edits.Layout l) (Space w) = refl
changed_one (edits.State s) (Con c) = refl
changed_one (edits.Title t) (Con c) = refl
changed_one (edits.TitleFormat t) (Con c) = refl
changed_one (edits.Fill props owner natural) (Con c) = refl
changed_one (edits.Name n) (Space w) = refl
changed_one (edits.Gaps inner outer) (Space w) = refl
changed_one (edits.Reserved e) (Output o) = refl
changed_one (edits.Shown w) (Output o) = refl
changed_one (edits.Current o) (Root c) = refl
changed_one edit kind = refl

pub changed_space : (edit : KindEdit) (kind : NodeKind) → one_space (changed edit kind) ≡ one_space kind
changed_space (edits.Share s) (Con c) = refl
changed_space (edits.Layout l) (Con c) = refl
changed_space (edits.Layout l) (Space w) = refl
changed_space (edits.State s) (Con c) = refl
changed_space (edits.Title t) (Con c) = refl
changed_space (edits.TitleFormat t) (Con c) = refl
changed_space (edits.Fill props owner natural) (Con c) = refl
changed_space (edits.Name n) (Space w) = refl
changed_space (edits.Gaps inner outer) (Space w) = refl
changed_space (edits.Reserved e) (Output o) = refl
changed_space (edits.Shown w) (Output o) = refl
changed_space (edits.Current o) (Root c) = refl
changed_space edit kind = refl

pub sound-changed : (c : ConId) (edit : KindEdit) (l : Level) (s : Spot) (forest : Forest) → FitsEditAt edit (spot_in s c forest) (first_kids (only c forest)) → IsSoundRow l s.tiled s.room forest
    → Grows 0 l s.tiled s.room forest forest (at c kind_changed edit forest) (row_with c forest forest)
sound-changed c edit l s forest ok p = keeps_by IsNode node_keeps c kind_changed edit 0 (λ found sp st. FitsEditAt edit sp (first_kids found)) (λ found sp st h. inl refl) here l s forest forest ok p
  where
    here : (l : Level) (s : Spot) (whole : Forest) (part : Part) (kids floats rest : Forest) → FitsEditAt edit (Some (spot_of s part)) kids
        → Here 0 l s (con part kids floats rest) (con (record part { kind = changed edit part.kind }) kids floats rest)
    here l s whole part kids floats rest ok p =
        let e = changed_room edit part.kind s.room in (
          (changed_con edit part.kind l s.tiled s.room part.id part.marks kids ok p.0, p.1, rw e p.2, rw e p.3, p.4),
          behind_row l part (record part { kind = changed edit part.kind }) kids floats rest kids floats rest refl (same_row l rest),
          omega arith,
        )

-- some changes fit everywhere
pub fits_layout : (l : Layout) (sp : Option Spot) (kids : Forest) → FitsEditAt (edits.Layout l) sp kids
fits_layout l None kids = tt
fits_layout l (Some s) kids = tt

pub fits_state : (x : ConState) (sp : Option Spot) (kids : Forest) → FitsEditAt (edits.State x) sp kids
fits_state x None kids = tt
fits_state x (Some s) kids = tt

pub fits_title : (t : List ℕ) (sp : Option Spot) (kids : Forest) → FitsEditAt (edits.Title t) sp kids
fits_title t None kids = tt
fits_title t (Some s) kids = tt

pub fits_format : (t : List ℕ) (sp : Option Spot) (kids : Forest) → FitsEditAt (edits.TitleFormat t) sp kids
fits_format t None kids = tt
fits_format t (Some s) kids = tt

pub fits_fill : (props : Props) (owner : ℕ) (natural : Size) (sp : Option Spot) (kids : Forest) → FitsEditAt (edits.Fill props owner natural) sp kids
fits_fill props owner natural None kids = tt
fits_fill props owner natural (Some s) kids = tt

pub fits_name : (n : List ℕ) (sp : Option Spot) (kids : Forest) → FitsEditAt (edits.Name n) sp kids
fits_name n None kids = tt
fits_name n (Some s) kids = tt

pub fits_gaps : (inner outer : ℕ) (sp : Option Spot) (kids : Forest) → FitsEditAt (edits.Gaps inner outer) sp kids
fits_gaps inner outer None kids = tt
fits_gaps inner outer (Some s) kids = tt

pub fits_reserved : (e : Edges) (sp : Option Spot) (kids : Forest) → FitsEditAt (edits.Reserved e) sp kids
fits_reserved e None kids = tt
fits_reserved e (Some s) kids = tt

pub fits_share : (n : ℕ) (sp : Option Spot) (kids : Forest) → is_tiled sp ≡ true → 1 ≤ n → n ≤ 1048576 → FitsEditAt (edits.Share n) sp kids
fits_share n None kids tiled low high = tt
fits_share n (Some s) kids tiled low high = let Share : Bool → Type 0 = λ b. HasShare b n in subst Share (sym tiled) (low, high)

pub fits_shown : (w : ConId) (sp : Option Spot) (kids : Forest) → in_row w kids ≡ true → FitsEditAt (edits.Shown w) sp kids
fits_shown w None kids h = tt
fits_shown w (Some s) kids h = h

pub fits_current : (o : ConId) (sp : Option Spot) (kids : Forest) → in_row o kids ≡ true → FitsEditAt (edits.Current o) sp kids
fits_current o None kids h = tt
fits_current o (Some s) kids h = h
