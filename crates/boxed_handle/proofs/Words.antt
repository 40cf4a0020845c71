-- A handle as a machine value. Assumes `Logic`.
--     Of               the type of handles of a type, under an allocator
--     word, typed      the machine value of a handle by its pointer and its allocator's, and that it is of its type
--     handle_word      a proof's step: what is owned of a handle is one machine value
use Rattle.std.proofs.Common.{◌≡◌, List, [], ◌∷◌, ◌++◌, refl, subst}
use mathlib.Core.Bool.{true, ◌&&◌}
use lib.Dec.{T, lit<}
use seplogic.Ra.Ura.{Ura}
use mir.Syntax.{ty_ptr}
use mir.Val.{Val, vstruct, vcons, vnil, of_list, has_ty, WT}
use types.Logic.{Logic}
use types.Kit.{Item, Goal, Seq, ‵, ◌$◌, fsplit, fjoin, fpick, fpack, feq_i, feq_l}
use denote.RattleType.{RattleType, Valss}
use denote.Builtin.{RawPtr}
use denote.RawPtr.{Ptr, block_ptr, null_ptr, ptr_val}
use denote.Struct.Struct.{within}
use denote.Struct.Owning.{shape}
use Rattle.core.proofs.alloc.Calls.{Al, α, Fits, handle_tells}
use Rattle.std_alloc.proofs.ResultValues.{and_tt}
use Rattle.boxed_handle.specs.contracts.Handle as handle

abbrev pub word : Ptr → Val → Val
word p hv = vstruct (vcons (ptr_val p) (vcons hv vnil))

module _ (R : RattleType) (Z : Al) where
  abbrev pub Of : RattleType
  Of = handle.the_row R Z.row Z.g

  pub typed : (p : Ptr) (hv : Val) → Fits Z hv → T (has_ty ty_ptr (ptr_val p) && (has_ty (α Z) hv && true)) × WT (word p hv)
  typed (block_ptr b o) hv fits = (and_tt (has_ty (α Z) hv) fits.0, (tt, (fits.1, tt)))
  typed null_ptr hv fits = (and_tt (has_ty (α Z) hv) fits.0, (record { fits = lit< tt }, (fits.1, tt)))

  module _ {M : Type 1} {𝓤 : Ura M} {𝓛 : Logic 𝓤} {K : Type 0} {Γ : List (Item 𝓤)} {G : Goal 𝓤 𝓛.H} where
    pub handle_word : K → (d : Of.Denot) (vs : List Val)
        → ((hv : Val) → vs ≡ word d.at hv ∷ [] → Fits Z hv → Seq K 𝓛 (‵ (Of.own_val d (word d.at hv ∷ [])) ∷ Γ) G)
        → Seq K 𝓛 (‵ (Of.own_val d vs) ∷ Γ) G
    handle_word t d vs k =
        fsplit t $ fpick t (λ vss. fsplit t $ feq_l t (λ ev. fsplit t $ feq_l t (λ ep. fsplit t $ handle_tells Z t d.alloc vss.1.0 (λ hv ea fits.
        fjoin t $ feq_i t (List Val) (ptr_val d.at ∷ []) (ptr_val d.at ∷ []) refl $ fjoin t $ feq_i t (List Val) (word d.at hv ∷ []) (word d.at hv ∷ []) refl $ fjoin t $
        fpack t (Valss (RawPtr ∷ Z.row ∷ [])) (within (shape (handle.the_type R Z.row Z.g)) (d.at, (d.alloc, tt)) (word d.at hv ∷ [])) (ptr_val d.at ∷ [], (hv ∷ [], tt)) $ fjoin t $
        k hv (subst (λ (ws : List Val). vs ≡ vstruct (of_list (ptr_val d.at ∷ (ws ++ []))) ∷ []) ea
        (subst (λ (ps : List Val). vs ≡ vstruct (of_list (ps ++ (vss.1.0 ++ []))) ∷ []) ep ev)) fits))))
