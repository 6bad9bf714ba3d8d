-- Values of structs of two fields.
use Rattle.std.proofs.Common.{◌≡◌, refl, lit<}
use mathlib.Core.Bool.{Bool, true, false, ◌&&◌}
use lib.Dec.{T}
use mir.Syntax.{Ty, Sym, tcons, tnil, ty_ptr, ty_struct}
use denote.RawPtr.{Ptr, block_ptr, null_ptr, ptr_val}
use mir.Val.{Val, vunit, vbool, vint, vfloat, vptr, vcode, vstruct, vnil, vcons, has_ty}
use Rattle.std.proofs.cell.Inside.{Good}

abbrev pub both : Val → Val → Val
both x y = vstruct (vcons x (vcons y vnil))

first : (a b : Bool) → T (a && (b && true)) → T a
first true b h = tt
first false b h = absurd h

second : (a b : Bool) → T (a && (b && true)) → T b
second true true h = tt
second true false h = absurd h
second false b h = absurd h

together : (a b : Bool) → T a → T b → T (a && (b && true))
together true true h k = tt
together true false h k = absurd k
together false b h k = absurd h

third : (a b : Bool) → T (a && (b && false)) → ⊥
third true true h = h
third true false h = h
third false b h = h

none : (a : Bool) → T (a && false) → ⊥
none true h = h
none false h = h

-- two values, each of its type, are one of a struct
pub both_good : (ρ σ : Ty) (x y : Val) → Good ρ x → Good σ y → (n : Sym) → Good (ty_struct n (tcons ρ (tcons σ tnil))) (both x y)
both_good ρ σ x y g h n = (together (has_ty ρ x) (has_ty σ y) g.0 h.0, (g.1, (h.1, tt)))

pub record Two (ρ σ : Ty) (u : Val) : Type 0 where
  pub x : Val
  pub y : Val
  pub is : u ≡ both x y
  pub x_good : Good ρ x
  pub y_good : Good σ y

-- a value of a struct with two fields is those of its fields
pub two : (n : Sym) (ρ σ : Ty) (u : Val) → Good (ty_struct n (tcons ρ (tcons σ tnil))) u → Two ρ σ u
two n ρ σ (vstruct (vcons x (vcons y vnil))) g = record { x = x; y = y; is = refl; x_good = (first (has_ty ρ x) (has_ty σ y) g.0, g.1.0); y_good = (second (has_ty ρ x) (has_ty σ y) g.0, g.1.1.0) }
two n ρ σ (vstruct (vcons x (vcons y (vcons z vs)))) g = absurd (third (has_ty ρ x) (has_ty σ y) g.0)
two n ρ σ (vstruct (vcons x vnil)) g = absurd (none (has_ty ρ x) g.0)
two n ρ σ (vstruct vnil) g = absurd g.0
two n ρ σ vunit g = absurd g.0
two n ρ σ (vbool b) g = absurd g.0
two n ρ σ (vint w k) g = absurd g.0
two n ρ σ (vfloat f k) g = absurd g.0
two n ρ σ (vptr b o) g = absurd g.0
two n ρ σ (vcode c) g = absurd g.0

-- a pointer is of a pointer's type
pub ptr_good : (p : Ptr) → Good ty_ptr (ptr_val p)
ptr_good (block_ptr b o) = (tt, tt)
ptr_good null_ptr = (tt, record { fits = lit< tt })
