-- The parameters of functions: a struct parameter is one view parameter for each member.
use Rattle.std.specs.Prelude.{ℕ, List, [], ◌∷◌, ◌++◌, Option, Some, None}
use Rattle.wm_lang.specs.declared.place.Position.{Position}
use Rattle.wm_lang.specs.declared.expression.BaseType.{BaseType}
use Rattle.wm_lang.specs.declared.expression.Identifier.{Identifier}
use Rattle.wm_lang.specs.declared.unit.ParameterKind.{ParameterKind}
use Rattle.wm_lang.specs.declared.unit.ParameterKind.TheVariants.{Scalar, Array, Pointer, Struct}
use Rattle.wm_lang.specs.declared.unit.Parameter.{Parameter}
use Rattle.wm_members.specs.declared.state.Meaning.{Meaning}
use Rattle.wm_members.specs.declared.state.Meaning.TheVariants.{Parameter as ParameterOf, Other}
use Rattle.wm_members.specs.declared.state.State.{State}
use Rattle.wm_members.specs.Expressions.{expanded}
use Rattle.wm_members.specs.Making.{Making, ◌>>=◌, pure, after, maybe, all_behind}
use Rattle.wm_members.specs.Members.{StructMember}
use Rattle.wm_members.specs.Naming.{member_identifier}
use Rattle.wm_members.specs.States.{Members, declared, structure_number, members_at}
use Rattle.wm_members.specs.Tables.{all_of}

abbrev pub plain_parameter : Parameter → ParameterKind → Parameter
plain_parameter p kind = record { at = p.at; is_const = p.is_const; kind = kind; name = p.name }

-- a scalar is `*m`, an array is `m[]`
abbrev pub member_parameter_kind : BaseType → Option Position → ParameterKind
member_parameter_kind base None = Pointer base
member_parameter_kind base (Some bracket) = Array base bracket None

abbrev pub member_parameter : Parameter → Identifier → StructMember → Parameter
member_parameter p name member =
    record {
      at = p.at;
      is_const = p.is_const;
      kind = member_parameter_kind member.base member.bracket;
      name = Some (member_identifier name member.name.name);
    }

abbrev pub members_behind : Parameter → Identifier → List Members → Option ℕ → List Parameter → List Parameter
members_behind p name structures None done = done
members_behind p name structures (Some number) done = all_behind (member_parameter p name) done (all_of (members_at number structures))

abbrev pub declared_maybe : Option Identifier → Meaning → State → State
declared_maybe None meaning s = s
declared_maybe (Some name) meaning s = declared name meaning s

abbrev pub views_behind : Parameter → Identifier → Option ℕ → List Parameter → Making (List Parameter)
views_behind p name number done = after (declared name (ParameterOf number)) (λ s. pure (members_behind p name s.structures number done) s)

abbrev pub struct_behind : Parameter → Option Identifier → Identifier → List Parameter → Making (List Parameter)
struct_behind p None structure done = pure done
struct_behind p (Some name) structure done = λ s. views_behind p name (structure_number structure.name s) done s

-- a parameter that is no struct parameter
abbrev pub plain_behind : Parameter → ParameterKind → List Parameter → Making (List Parameter)
plain_behind p kind done = after (declared_maybe p.name Other) (pure (done ++ plain_parameter p kind ∷ []))

abbrev pub kind_behind : Parameter → ParameterKind → List Parameter → Making (List Parameter)
kind_behind p (Scalar base) done = plain_behind p (Scalar base) done
kind_behind p (Array element bracket length) done =
    maybe expanded length >>= λ l. plain_behind p (Array element bracket l) done
kind_behind p (Pointer base) done = plain_behind p (Pointer base) done
kind_behind p (Struct structure) done = struct_behind p p.name structure done

abbrev pub parameter_behind : Parameter → List Parameter → Making (List Parameter)
parameter_behind p done = kind_behind p p.kind done
