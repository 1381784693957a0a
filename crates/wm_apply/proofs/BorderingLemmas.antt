-- The same border for many windows, one after another and at once.
use Rattle.std.proofs.Common.{◌≡◌, ℕ, Bool, true, false, cond, ◌||◌, ◌&&◌, List, [], ◌∷◌, Option, None, Some, is_none, refl, ap, ◌∙◌, sym}
use Rattle.std.specs.Option.{option_map}
use Rattle.wm_apply.proofs.KillLemmas.{IsFrom, from}
use Rattle.wm_apply.proofs.MappedLemmas.{mapped_alike, mapped_same, mapped_twice, part_mapped, settled_kept}
use Rattle.wm_apply.specs.Bordering.{begins, border_after, bordered, change_error, climbs, command_of, first_error, node_error, part_at, part_error, part_of, refused_before, restyled, state_after, takers, takes}
use Rattle.wm_apply.specs.declared.borders.BorderChange.{BorderChange}
use Rattle.wm_apply.specs.declared.rows.How.{How}
use Rattle.wm_apply.specs.Kills.{is_window_node, row_at}
use Rattle.wm_apply.specs.Subjects.{each_error, each_tree, one_error, one_tree, or_error}
use Rattle.wm_base.specs.declared.errors.ErrorText.{ErrorText}
use Rattle.wm_base.specs.declared.ids.ConId.{ConId}
use Rattle.wm_arrange.specs.Maps.{holds}
use Rattle.wm_forest.proofs.ForestLemmas.{only_absent}
use Rattle.wm_forest.proofs.RecencyLemmas.{same_is}
use Rattle.wm_forest.specs.Change.{is_window_kind}
use Rattle.wm_forest.specs.declared.part.ConPart.{ConPart}
use Rattle.wm_forest.specs.declared.part.ConState.{ConState}
use Rattle.wm_forest.specs.declared.part.NodeKind.{NodeKind}
use Rattle.wm_forest.specs.declared.part.NodeKind.TheVariants.{Root, Output, Space, Con}
use Rattle.wm_forest.specs.declared.part.Part.{Part}
use Rattle.wm_forest.specs.Each.{mapped}
use Rattle.wm_forest.specs.Forest.{Forest, end}
use Rattle.wm_forest.specs.Look.{first_part, has, only, same}
use Rattle.wm_forest.specs.Recency.{lists}
use Rattle.wm_forest.specs.Settle.{is_settled}
use Rattle.wm_language.specs.declared.command.Command.{Command}
use Rattle.wm_layouts.specs.declared.plan.Env.{Env}
use Rattle.wm_tree.proofs.EachLemmas.{sound-restated}
use Rattle.wm_tree.proofs.SettledLaws.{settled_is_settled, settled_same}
use Rattle.wm_tree.specs.Sound.{IsSound}
use Rattle.wm_tree.specs.States.{kind_restated, part_restated}
use Rattle.wm_tree.specs.TreeValue.{TreeValue}
use Rattle.wm_tree.specs.Words.{settled}
use Rattle.wm_apply.proofs.RestyleLemmas.{by_part, climbs_apart, given, one_by, one_part, state_by}

-- ---- each of several subjects

-- the states after the changes of c and of those behind it
both_states : (change : BorderChange) (c : ConId) (cs : List ConId) (id : ConId) (own : ConPart) → lists c cs ≡ false → state_after change cs id (record own { state = state_after change (c ∷ []) id own }) ≡ state_after change (c ∷ cs) id own
both_states change c cs id own h = by (is_window_kind own.kind) (same c id) (lists id cs) (λ e. rw (← same_is c id e) h)
  where
    new : ConState → ConState
    new s = record s { border = border_after change s.border }

    by : (w a b : Bool) → (a ≡ true → b ≡ false) → cond (w && b) (new (cond (w && (a || false)) (new own.state) own.state)) (cond (w && (a || false)) (new own.state) own.state) ≡ cond (w && (a || b)) (new own.state) own.state
    by false a b h = refl
    by true true true h = let bad : true ≡ false = h refl in cc
    by true true false h = refl
    by true false true h = refl
    by true false false h = refl

both_parts : (change : BorderChange) (c : ConId) (cs : List ConId) → lists c cs ≡ false → (p : Part) → part_restated (state_after change cs) (part_restated (state_after change (c ∷ [])) p) ≡ part_restated (state_after change (c ∷ cs)) p
both_parts change c cs h p = by p.kind
  where
    by : (kind : NodeKind) → record p { kind = kind_restated (state_after change cs) p.id (kind_restated (state_after change (c ∷ [])) p.id kind) } ≡ record p { kind = kind_restated (state_after change (c ∷ cs)) p.id kind }
    by (Root o) = refl
    by (Output o) = refl
    by (Space s) = refl
    by (Con own) = rw (both_states change c cs p.id own h) refl

both_trees : (change : BorderChange) (c : ConId) (cs : List ConId) (t : TreeValue) → lists c cs ≡ false → bordered change cs (bordered change (c ∷ []) t) ≡ bordered change (c ∷ cs) t
both_trees change c cs t h =
    let with : Forest → TreeValue = λ f. record t { nodes = f } in
    ap with (mapped_twice (part_restated (state_after change cs)) (part_restated (state_after change (c ∷ []))) (part_restated (state_after change (c ∷ cs))) (both_parts change c cs h) t.nodes)

none_states : (change : BorderChange) (p : Part) → part_restated (state_after change []) p ≡ p
none_states change p = by p.kind
  where
    none : (w : Bool) (s : ConState) → cond (w && false) (record s { border = border_after change s.border }) s ≡ s
    none true s = refl
    none false s = refl

    by : (kind : NodeKind) → record p { kind = kind_restated (state_after change []) p.id kind } ≡ record p { kind = kind }
    by (Root o) = refl
    by (Output o) = refl
    by (Space s) = refl
    by (Con own) = rw (none (is_window_kind own.kind) own.state) refl

none_tree : (change : BorderChange) (t : TreeValue) → bordered change [] t ≡ t
none_tree change t =
    let with : Forest → TreeValue = λ f. record t { nodes = f } in
    ap with (mapped_same (part_restated (state_after change [])) (none_states change) t.nodes)

-- other borders leave what a node is
error_kept : (change : BorderChange) (g : ConId → ConPart → ConState) (o : Option Part) → part_error change (option_map (part_restated g) o) ≡ part_error change o
error_kept change g None = refl
error_kept change g (Some p) = by p.kind
  where
    by : (kind : NodeKind) → node_error change (kind_restated g p.id kind) ≡ node_error change kind
    by (Root o) = refl
    by (Output o) = refl
    by (Space s) = refl
    by (Con own) = refl

errors_kept : (change : BorderChange) (by cs : List ConId) (t : TreeValue) → first_error change cs (bordered change by t) ≡ first_error change cs t
errors_kept change by [] t = refl
errors_kept change by (c ∷ cs) t =
    let g = state_after change by in
    let one : part_error change (part_of c (bordered change by t)) ≡ part_error change (part_of c t) = ap (part_error change) (part_mapped (part_restated g) (λ p. refl) c t.nodes) ∙ error_kept change g (part_of c t) in
    rw (one, errors_kept change by cs t) refl

-- what the change makes of each of the subjects of a tree in which nothing is left to settle
pub record AreBordered (env : Env) (how : How) (change : BorderChange) (cs : List ConId) (t : TreeValue) : Type 0 where
  pub tree : each_tree env how (command_of change) cs t ≡ bordered change cs t
  pub error : each_error env how (command_of change) cs t ≡ first_error change cs t

settled_bordered : (change : BorderChange) (cs : List ConId) (t : TreeValue) → is_settled None t.nodes ≡ true → is_settled None (bordered change cs t).nodes ≡ true
settled_bordered change cs t h = settled_kept (state_after change cs) None t.nodes ∙ h

one_bordered : (env : Env) (how : How) (change : BorderChange) (c : ConId) (t : TreeValue) → change_error change ≡ None → IsSound t → is_settled None t.nodes ≡ true → one_tree env how (command_of change) c t ≡ bordered change (c ∷ []) t
one_bordered env how change c t fine s h =
    (one_by env how change c t).0 ∙ (by_part change c (part_of c t) t).tree ∙ by (takes change (part_of c t)) (one_part change fine c t (s.once c) (part_of c t) refl)
  where
    by : (b : Bool) → cond b (given change c (state_by (part_of c t)) (state_by (part_of c t)) t) t ≡ bordered change (c ∷ []) t → cond b (settled (given change c (state_by (part_of c t)) (state_by (part_of c t)) t)) t ≡ bordered change (c ∷ []) t
    by true e = ap settled e ∙ settled_same (bordered change (c ∷ []) t) (settled_bordered change (c ∷ []) t h)
    by false e = e

pub are_bordered : (env : Env) (how : How) (change : BorderChange) (cs : List ConId) (t : TreeValue) → change_error change ≡ None → climbs cs ≡ true → IsSound t → is_settled None t.nodes ≡ true → AreBordered env how change cs t
are_bordered env how change [] t fine up s h = record { tree = sym (none_tree change t); error = refl }
are_bordered env how change (c ∷ cs) t fine up s h =
    let apart = climbs_apart c cs up in
    let one = one_bordered env how change c t fine s h in
    let u : TreeValue = bordered change (c ∷ []) t in
    let rest = are_bordered env how change cs u fine apart.1 (sound-restated (state_after change (c ∷ [])) t s) (settled_bordered change (c ∷ []) t h) in
    let own : one_error env how (command_of change) c t ≡ part_error change (part_of c t) = (one_by env how change c t).1 ∙ (by_part change c (part_of c t) t).error in
    record {
      tree = ap (λ v. each_tree env how (command_of change) cs v) one ∙ rest.tree ∙ both_trees change c cs t apart.0;
      error = ap (λ v. or_error (one_error env how (command_of change) c t) (each_error env how (command_of change) cs v)) one ∙ (rw (own, rest.error ∙ errors_kept change (c ∷ []) cs t) refl);
    }

-- ---- before the first that takes the change

pub record AreRefused (env : Env) (how : How) (change : BorderChange) (cs : List ConId) (t : TreeValue) : Type 0 where
  pub tree : each_tree env how (command_of change) cs t ≡ each_tree env how (command_of change) (takers change cs t) t
  pub error : each_error env how (command_of change) cs t ≡ or_error (refused_before change cs t None) (each_error env how (command_of change) (takers change cs t) t)

or_later : (a b d : Option ErrorText) → or_error a (or_error b d) ≡ or_error (or_error a b) d
or_later None b d = refl
or_later (Some e) b d = refl

or_never : (e : Option ErrorText) → e ≡ or_error e None
or_never None = refl
or_never (Some e) = refl

-- the error so far comes before those of the subjects
gathered : (change : BorderChange) (cs : List ConId) (t : TreeValue) (first : Option ErrorText) → refused_before change cs t first ≡ or_error first (refused_before change cs t None)
gathered change [] t first = or_never first
gathered change (c ∷ cs) t first =
    let own = part_error change (part_of c t) in
    by (takes change (part_of c t)) own (refused_before change cs t None) (gathered change cs t (or_error first own)) (gathered change cs t own)
  where
    by : (b : Bool) (own rest : Option ErrorText) → refused_before change cs t (or_error first own) ≡ or_error (or_error first own) rest → refused_before change cs t own ≡ or_error own rest
        → cond b first (refused_before change cs t (or_error first own)) ≡ or_error first (cond b None (refused_before change cs t own))
    by true own rest u v = or_never first
    by false own rest u v = u ∙ sym (or_later first own rest) ∙ sym (ap (or_error first) v)

pub are_refused : (env : Env) (how : How) (change : BorderChange) (cs : List ConId) (t : TreeValue) → AreRefused env how change cs t
are_refused env how change [] t = record { tree = refl; error = refl }
are_refused env how change (c ∷ cs) t = by (takes change (part_of c t)) refl (are_refused env how change cs t)
  where
    tree_is : one_tree env how (command_of change) c t ≡ cond (takes change (part_of c t)) (settled (given change c (state_by (part_of c t)) (state_by (part_of c t)) t)) t
    tree_is = (one_by env how change c t).0 ∙ (by_part change c (part_of c t) t).tree

    error_is : one_error env how (command_of change) c t ≡ part_error change (part_of c t)
    error_is = (one_by env how change c t).1 ∙ (by_part change c (part_of c t) t).error

    by : (b : Bool) → takes change (part_of c t) ≡ b → AreRefused env how change cs t → AreRefused env how change (c ∷ cs) t
    by true e rest = record { tree = rw e refl; error = rw e refl }
    by false e rest =
        let same_tree : one_tree env how (command_of change) c t ≡ t = tree_is ∙ rw e refl in
        record {
          tree = ap (λ v. each_tree env how (command_of change) cs v) same_tree ∙ rest.tree ∙ rw e refl;
          error = ap (λ v. or_error (one_error env how (command_of change) c t) (each_error env how (command_of change) cs v)) same_tree ∙ ap (λ e. or_error e (each_error env how (command_of change) cs t)) error_is ∙ ap (or_error (part_error change (part_of c t))) rest.error
              ∙ or_later (part_error change (part_of c t)) (refused_before change cs t None) (each_error env how (command_of change) (takers change cs t) t)
              ∙ rw e (ap (λ x. or_error x (each_error env how (command_of change) (takers change cs t) t)) (sym (gathered change cs t (part_error change (part_of c t)))));
        }

pub passed_error : (change : BorderChange) (c : ConId) (cs : List ConId) (t : TreeValue) (first : Option ErrorText) → takes change (part_of c t) ≡ false → refused_before change (c ∷ cs) t first ≡ refused_before change cs t (or_error first (part_error change (part_of c t)))
passed_error change c cs t first h = rw h refl

pub passed_rest : (change : BorderChange) (c : ConId) (cs : List ConId) (t : TreeValue) → takes change (part_of c t) ≡ false → takers change (c ∷ cs) t ≡ takers change cs t
passed_rest change c cs t h = rw h refl

-- the first of what is left takes the change, and the ids rise there too
pub takers_begin : (change : BorderChange) (cs : List ConId) (t : TreeValue) → begins change (takers change cs t) t ≡ true
takers_begin change [] t = refl
takers_begin change (c ∷ cs) t = by (takes change (part_of c t)) refl (takers_begin change cs t)
  where
    by : (b : Bool) → takes change (part_of c t) ≡ b → begins change (takers change cs t) t ≡ true → begins change (cond b (c ∷ cs) (takers change cs t)) t ≡ true
    by true e rest = e
    by false e rest = rest

pub takers_climb : (change : BorderChange) (cs : List ConId) (t : TreeValue) → climbs cs ≡ true → climbs (takers change cs t) ≡ true
takers_climb change [] t h = refl
takers_climb change (c ∷ cs) t h = by (takes change (part_of c t)) (takers_climb change cs t (climbs_apart c cs h).1)
  where
    by : (b : Bool) → climbs (takers change cs t) ≡ true → climbs (cond b (c ∷ cs) (takers change cs t)) ≡ true
    by true rest = h
    by false rest = rest

-- ---- the first that takes the change

pub record IsTaken (env : Env) (how : How) (change : BorderChange) (c : ConId) (t : TreeValue) : Type 0 where
  pub settled : is_settled None (one_tree env how (command_of change) c t).nodes ≡ true
  pub fine : change_error change ≡ None

pub is_taken : (env : Env) (how : How) (change : BorderChange) (c : ConId) (t : TreeValue) → takes change (part_of c t) ≡ true → IsTaken env how change c t
is_taken env how change c t h =
    let given_tree : TreeValue = given change c (state_by (part_of c t)) (state_by (part_of c t)) t in
    let tree_is : one_tree env how (command_of change) c t ≡ settled given_tree = (one_by env how change c t).0 ∙ (by_part change c (part_of c t) t).tree ∙ rw h refl in
    record {
      settled = rw tree_is (settled_is_settled None given_tree.nodes);
      fine = fine_by (part_of c t) h;
    }
  where
    unset : (w : Bool) (o : Option ErrorText) → (w && is_none o) ≡ true → o ≡ None
    unset true None h = refl
    unset true (Some e) h = cc
    unset false o h = cc

    fine_by : (p : Option Part) → takes change p ≡ true → change_error change ≡ None
    fine_by None h = cc
    fine_by (Some p) h = unset (is_window_node p.kind) (change_error change) h

-- what the change makes of a subject that takes it, and of those behind it
pub record IsAll (env : Env) (how : How) (change : BorderChange) (command : Command) (c : ConId) (cs : List ConId) (t first : TreeValue) : Type 0 where
  pub tree : bordered change cs first ≡ each_tree env how command (c ∷ cs) t
  pub error : first_error change cs first ≡ each_error env how command cs (one_tree env how command c t)

pub is_all : (env : Env) (how : How) (change : BorderChange) (command : Command) (c : ConId) (cs : List ConId) (t first : TreeValue) → command ≡ command_of change → first ≡ one_tree env how command c t → IsSound first → takes change (part_of c t) ≡ true → climbs (c ∷ cs) ≡ true → IsAll env how change command c cs t first
is_all env how change command c cs t first named is s taken up =
    let it = is_taken env how change c t taken in
    let own : first ≡ one_tree env how (command_of change) c t = is ∙ ap (λ k. one_tree env how k c t) named in
    let done = are_bordered env how change cs first it.fine (climbs_apart c cs up).1 s (rw own it.settled) in
    record {
      tree = sym done.tree ∙ ap (λ v. each_tree env how (command_of change) cs v) own ∙ sym (ap (λ k. each_tree env how k cs (one_tree env how k c t)) named);
      error = sym done.error ∙ ap (λ v. each_error env how (command_of change) cs v) own ∙ sym (ap (λ k. each_error env how k cs (one_tree env how k c t)) named);
    }

-- those before the first that takes the change have no part but their error
pub record IsPassed (env : Env) (how : How) (change : BorderChange) (command : Command) (cs rest : List ConId) (t : TreeValue) : Type 0 where
  pub tree : each_tree env how command rest t ≡ each_tree env how command cs t
  pub error : or_error (refused_before change cs t None) (each_error env how command rest t) ≡ each_error env how command cs t

pub is_passed : (env : Env) (how : How) (change : BorderChange) (command : Command) (cs rest : List ConId) (t : TreeValue) → command ≡ command_of change → rest ≡ takers change cs t → IsPassed env how change command cs rest t
is_passed env how change command cs rest t named is =
    let all = are_refused env how change cs t in
    let later : each_error env how command rest t ≡ each_error env how (command_of change) (takers change cs t) t = ap (λ k. each_error env how k rest t) named ∙ ap (λ r. each_error env how (command_of change) r t) is in
    record {
      tree = ap (λ k. each_tree env how k rest t) named ∙ ap (λ r. each_tree env how (command_of change) r t) is ∙ sym all.tree ∙ sym (ap (λ k. each_tree env how k cs t) named);
      error = ap (or_error (refused_before change cs t None)) later ∙ sym all.error ∙ sym (ap (λ k. each_error env how k cs t) named);
    }

-- ---- rows and maps

-- what the row from a node on begins with is what the node is
pub part_found : (c : ConId) (t : TreeValue) → part_at (row_at c t.nodes) ≡ part_of c t
part_found c t = by (row_at c t.nodes) (only c t.nodes) (from c t.nodes) (only_absent c t.nodes)
  where
    by : (row : Option Forest) (found : Forest) → IsFrom row (has c t.nodes) found → (has c t.nodes ≡ false → found ≡ end) → part_at row ≡ first_part found
    by None found h e = rw (e h) refl
    by (Some row) found h e = sym h.1

pub restyled_is : {A : Type 0} (change : BorderChange) (map : List (ℕ × A)) (cs : List ConId) (t : TreeValue) → ((c : ConId) → holds map c ≡ lists c cs) → mapped (part_restated (restyled change map)) t.nodes ≡ mapped (part_restated (state_after change cs)) t.nodes
restyled_is change map cs t h = mapped_alike (part_restated (restyled change map)) (part_restated (state_after change cs)) same_part t.nodes
  where
    same_part : (p : Part) → part_restated (restyled change map) p ≡ part_restated (state_after change cs) p
    same_part p = by p.kind
      where
        by : (kind : NodeKind) → record p { kind = kind_restated (restyled change map) p.id kind } ≡ record p { kind = kind_restated (state_after change cs) p.id kind }
        by (Root o) = refl
        by (Output o) = refl
        by (Space s) = refl
        by (Con own) = rw (h p.id) refl
