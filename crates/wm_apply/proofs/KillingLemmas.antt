-- `kill` leaves a tree as it is but for settling, and refuses workspaces.
use Rattle.std.proofs.Common.{◌≡◌, Bool, true, false, cond, ◌||◌, List, [], ◌∷◌, Option, None, Some, is_some, refl, ap, ◌∙◌}
use Rattle.std.specs.List.{list_any}
use Rattle.std.specs.Option.{option_map}
use Rattle.wm_apply.specs.declared.rows.How.{How}
use Rattle.wm_apply.specs.Subjects.{each_error, each_tree, error_of, one_error, one_tree, or_error, unless_refused}
use Rattle.wm_base.specs.declared.errors.ErrorText.{ErrorText}
use Rattle.wm_base.specs.declared.errors.ErrorText.TheVariants as errors
use Rattle.wm_base.specs.declared.ids.ConId.{ConId}
use Rattle.wm_forest.specs.declared.part.NodeKind.{NodeKind}
use Rattle.wm_forest.specs.declared.part.NodeKind.TheVariants.{Root, Output, Space, Con}
use Rattle.wm_forest.specs.declared.part.Part.{Part}
use Rattle.wm_forest.specs.Look.{con_kind, first_part, kind_by, only, space_kind}
use Rattle.wm_language.specs.declared.command.Command.TheVariants as commands
use Rattle.wm_layouts.specs.declared.plan.Env.{Env}
use Rattle.wm_shared.specs.Refusing.{error_if}
use Rattle.wm_shared.specs.Subject.{is_container, is_space, is_subject_kind}
use Rattle.wm_tree.proofs.SettledLaws.{settled_twice}
use Rattle.wm_tree.specs.TreeValue.{TreeValue}
use Rattle.wm_tree.specs.Words.{settled}

-- the error of a workspace
abbrev at_space : Bool → Option ErrorText
at_space b = cond b (Some errors.AtWorkspace) None

-- the tree and the error of one `kill`, by what the subject is
abbrev tree_by : Option Part → TreeValue → TreeValue
tree_by p t = cond (is_subject_kind (kind_by space_kind p) (kind_by con_kind p)) (unless_refused (error_if (is_some (kind_by space_kind p)) errors.AtWorkspace None) t (settled t)) t

abbrev error_by : Option Part → Option ErrorText
error_by p = cond (is_subject_kind (kind_by space_kind p) (kind_by con_kind p)) (option_map error_of (error_if (is_some (kind_by space_kind p)) errors.AtWorkspace None)) None

-- a container is asked, which settles the tree; a workspace is refused, and what is gone is passed over
record IsKilled (p : Option Part) (t : TreeValue) : Type 0 where
  tree : tree_by p t ≡ cond (is_some (kind_by con_kind p)) (settled t) t
  error : error_by p ≡ at_space (is_some (kind_by space_kind p))

by_kind : (kind : NodeKind) (t : TreeValue) → (cond (is_subject_kind (space_kind kind) (con_kind kind)) (unless_refused (error_if (is_some (space_kind kind)) errors.AtWorkspace None) t (settled t)) t ≡ cond (is_some (con_kind kind)) (settled t) t)
    × (cond (is_subject_kind (space_kind kind) (con_kind kind)) (option_map error_of (error_if (is_some (space_kind kind)) errors.AtWorkspace None)) None ≡ at_space (is_some (space_kind kind)))
by_kind (Root c) t = (refl, refl)
by_kind (Output o) t = (refl, refl)
by_kind (Space s) t = (refl, refl)
by_kind (Con c) t = (refl, refl)

killed : (p : Option Part) (t : TreeValue) → IsKilled p t
killed None t = record { tree = refl; error = refl }
killed (Some part) t = let k = by_kind part.kind t in record { tree = k.0; error = k.1 }

one_killed : (env : Env) (how : How) (c : ConId) (t : TreeValue) → (one_tree env how commands.Kill c t ≡ cond (is_container t c) (settled t) t) × (one_error env how commands.Kill c t ≡ at_space (is_space t c))
one_killed env how c t = let k = killed (first_part (only c t.nodes)) t in (k.tree, k.error)

-- behind a container the tree is settled
pub settled_behind : (env : Env) (how : How) (c : ConId) (t : TreeValue) → is_container t c ≡ true → settled (one_tree env how commands.Kill c t) ≡ one_tree env how commands.Kill c t
settled_behind env how c t h =
    let e : one_tree env how commands.Kill c t ≡ settled t = (one_killed env how c t).0 ∙ ap (λ b. cond b (settled t) t) h in
    rw e (settled_twice t)

-- what `kill` does to a settled tree
record IsLeft (env : Env) (how : How) (cs : List ConId) (t : TreeValue) : Type 0 where
  tree : each_tree env how commands.Kill cs t ≡ t
  error : each_error env how commands.Kill cs t ≡ at_space (list_any (is_space t) cs)

stays : (b : Bool) (t : TreeValue) → settled t ≡ t → cond b (settled t) t ≡ t
stays true t h = h
stays false t h = refl

first_space : (a b : Bool) → or_error (at_space a) (at_space b) ≡ at_space (a || b)
first_space true b = refl
first_space false b = refl

left : (env : Env) (how : How) (cs : List ConId) (t : TreeValue) → settled t ≡ t → IsLeft env how cs t
left env how [] t h = record { tree = refl; error = refl }
left env how (c ∷ cs) t h =
    let one = one_killed env how c t in
    let same : one_tree env how commands.Kill c t ≡ t = one.0 ∙ stays (is_container t c) t h in
    let rest = left env how cs t h in
    record {
      tree = ap (λ u. each_tree env how commands.Kill cs u) same ∙ rest.tree;
      error = ap (λ u. or_error (one_error env how commands.Kill c t) (each_error env how commands.Kill cs u)) same ∙ (rw (one.1, rest.error) (first_space (is_space t c) (list_any (is_space t) cs)));
    }

pub left_tree : (env : Env) (how : How) (cs : List ConId) (t : TreeValue) → settled t ≡ t → each_tree env how commands.Kill cs t ≡ t
left_tree env how cs t h = (left env how cs t h).tree

pub left_error : (env : Env) (how : How) (cs : List ConId) (t : TreeValue) → settled t ≡ t → each_error env how commands.Kill cs t ≡ cond (list_any (is_space t) cs) (Some errors.AtWorkspace) None
left_error env how cs t h = (left env how cs t h).error
