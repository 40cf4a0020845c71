-- The edge to C: a function that makes a struct of a handle's two fields, or a handle of such a struct's. Assumes `Logic`.
--     moves            its MIR, by the names of the two structs
--     moved            it meets its contract, where the two own the same
use Rattle.std.proofs.Common.{◌≡◌, List, [], ◌∷◌, ◌++◌, refl, sym, subst}
use seplogic.Ra.Ura.{Ura}
use mir.Syntax.{Sym, Ty, Fn, Callee, local, value_local, ty_struct, ty_ptr, tcons, tnil, seq, assign, place, field, rv_opd, copy, aggregate, return}
use mir.Val.{Val}
use base.Logic.{ent, emp}
use base.Fml.{Fml, ftrue, fsep}
use prog.Model.{Model}
use prog.Wp.{Calls, Loops, WpFn, Closed}
use types.Logic.{Logic}
use types.Kit.{Item, ‵, raw, ◌⊛◌, ◌$◌, ◌∵◌, !, qed, by, move, drop, rewrite, join, split, fsplit, fjoin, suffices, done}
use types.Part.{whole, sub, agg}
use types.Run.{stop, fld, no_more, and_then, of_opd, returns, enter}
use types.ByLocal.{alloc_all, pass_all, free_all, look_at, get, get_in, sets}
use contract.Monad.{fact}
use contract.Running.{Running, tables}
use denote.RattleType.{RattleType}
use denote.Exit.{yes, Last, left}
use denote.Signature.{Slot, plain}
use denote.Steps.{nothing}
use denote.Triple.Clauses.{Ended, Clauses, closing}
use denote.Triple.Spec.{Meets}
use denote.Triple.Walked.{says, Stays, stay_dropped, walk_of, ends_at, Goes-dropped}
use Rattle.core.proofs.alloc.Calls.{α}
use Rattle.core.proofs.atomic.Steps.{Ptr-Good}
use Rattle.std.proofs.raw_atomic.Walks.{proved_at}
use Rattle.boxed_handle.proofs.AtGlobal.{at_global}
use Rattle.boxed_handle.proofs.Words.{Of, word, typed, handle_word}

abbrev two : Sym → Ty
two ν = ty_struct ν (tcons ty_ptr (tcons (α at_global) tnil))

-- the second struct's pointer and allocator, cast, and the first one made of them
abbrev pub moves : Sym → Sym → Fn
moves ν μ = record {
  lifetimes = 0;
  outlives = [];
  ty_params = [];
  givens = 0;
  params = 1;
  locals = local (two ν) value_local ∷ local (two μ) value_local ∷ local ty_ptr value_local ∷ local (α at_global) value_local ∷ local ty_ptr value_local ∷ [];
  body =
      seq (assign (place 2 []) (rv_opd (copy (place 1 (field 0 ∷ [])))))
      (seq (assign (place 3 []) (rv_opd (copy (place 1 (field 1 ∷ [])))))
      (seq (assign (place 4 []) (rv_opd (copy (place 2 []))))
      (seq (assign (place 0 []) (aggregate (copy (place 4 []) ∷ copy (place 3 []) ∷ []))) return)));
}

module _ (R From To : RattleType) (held : From.Denot → (Of R at_global).Denot) (made : From.Denot → To.Denot)
    (as_handle : (d : From.Denot) (vs : List Val) → From.own_val d vs ≡ (Of R at_global).own_val (held d) vs)
    (of_handle : (d : From.Denot) (vs : List Val) → (Of R at_global).own_val (held d) vs ≡ To.own_val (made d) vs)
    (Told : From.Denot → To.Denot → Type 0) (told : (d : From.Denot) → Told d (made d))
    (last : (d : From.Denot) → Last (From.exit yes) d) (silent : (d : From.Denot) (l : Last (From.exit yes) d) → left (From.exit yes) d l ≡ ftrue) where
  abbrev slot : Slot 0
  slot = plain (λ _. From)

  abbrev ended : Ended
  ended = record { signature = record { lifetimes = 0; outlives = []; params = slot ∷ []; result = plain (λ _. To) }; kept = (yes, tt) }

  abbrev stayed : Stays ended.signature.params ended.kept
  stayed = (stay_dropped slot yes, tt)

  abbrev clauses : {M : Type 1} (𝓤 : Ura M) → Clauses 𝓤 ended
  clauses 𝓤 κs a = record { ghost = Unit {0}; requires = λ _. emp 𝓤; ensures = λ _ r _. fact 𝓤 (Told a.0 r) }

  module _ {M : Type 1} {𝓤 : Ura M} (𝓛 : Logic 𝓤) (C : Calls 𝓤 𝓛.H) (Λ : Loops 𝓤 𝓛.H) (ν μ : Sym) where
    open 𝓛 use {H}

    walk : (z : (walk_of 𝓛 ended stayed (clauses 𝓤)).Ghost)
        → ent 𝓤 ((walk_of 𝓛 ended stayed (clauses 𝓤)).pre z) (WpFn 𝓤 H C Λ (moves ν μ) (z.0.4.0 ++ []) ((walk_of 𝓛 ended stayed (clauses 𝓤)).post z))
    walk z =
        let Post = (walk_of 𝓛 ended stayed (clauses 𝓤)).post z in let d = z.0.3.0 in let h = held d in
        qed 𝓛 ((‵ ftrue ⊛ ‵ (fsep (From.own_val d z.0.4.0) ftrue)) ∷ raw (emp 𝓤) ∷ []) ∵ split ! $ drop ! $ fsplit ! $
        rewrite ! 0 (λ (F : Fml). ‵ F) (as_handle d z.0.4.0) refl $ handle_word R at_global ! h z.0.4.0 (λ hv ws fits. let w = word h.at hv in
        rewrite ! 0 (λ (F : Fml). ‵ F) (of_handle d (w ∷ [])) refl $ move ! (1 ∷ 2 ∷ []) $ drop ! $ drop ! $
        let Γ : List (Item 𝓤) = ‵ (To.own_val (made d) (w ∷ [])) ∷ [] in
        by ! (subst (λ (us : List Val). ent 𝓤 (types.Kit.⋆ 𝓛 Γ) (WpFn 𝓤 H C Λ (moves ν μ) (us ++ []) Post)) (sym ws)
        (qed 𝓛 Γ ∵ enter ! C Λ (moves ν μ) (w ∷ []) _ $ alloc_all ! (λ ls. pass_all ! refl (typed R at_global h.at hv fits, tt) $
        sets ! (of_opd ! (get_in ! (fld ! refl (stop !)) (sub ! 0 refl (whole !)))) refl (Ptr-Good h.at) $ sets ! (of_opd ! (get_in ! (fld ! refl (stop !)) (sub ! 1 refl (whole !)))) refl fits $
        sets ! (of_opd ! (get ! refl)) refl (Ptr-Good h.at) $ sets ! (agg ! (and_then ! (get ! refl) (and_then ! (get ! refl) (no_more !)))) refl (typed R at_global h.at hv fits) $
        returns ! (look_at ! 0 refl) $ free_all ! refl $
        suffices ! _ (ends_at 𝓛 ended stayed (clauses 𝓤) z w (made d) (last d, tt) (tt, tt)) $ says ! (told d) $
        nothing ! $ nothing ! $ fjoin ! $ join ! $ nothing ! $ join ! $ done !))))

  pub moved : {M : Type 1} (𝓤 : Ura M) (𝓛 : Logic 𝓤) (𝓜 : Model 𝓤 𝓛.H) (𝓡 : Running 𝓤 𝓛.H 𝓜) (ν μ : Sym) (k : Callee)
      → Closed 𝓤 𝓛.H (tables 𝓤 𝓛.H 𝓜 𝓡 𝓡.env).C (tables 𝓤 𝓛.H 𝓜 𝓡 𝓡.env).Λ k (moves ν μ)
      → Meets 𝓛 ended.signature ((tables 𝓤 𝓛.H 𝓜 𝓡 𝓡.env).C k) (closing 𝓛 ended (clauses 𝓤))
  moved 𝓤 𝓛 𝓜 𝓡 ν μ k closed =
      let 𝓣 = tables 𝓤 𝓛.H 𝓜 𝓡 𝓡.env in
      proved_at 𝓛 ended stayed (clauses 𝓤) 𝓜 𝓡 (Goes-dropped 𝓛 0 slot yes (λ _. silent), tt) k (moves ν μ) closed (λ z _. walk 𝓛 𝓣.C 𝓣.Λ ν μ z)
