-- What the table gives for a slot of arithmetic, and for any slot, has the slot's fields.
use Rattle.std.proofs.Common.{◌≡◌, ℕ, ℤ, pos, negsuc, ◌+◌, ◌*◌, ◌/◌, ◌%◌, Bool, true, false, not, ◌&&◌, ◌==◌, nat_le, ◌||◌, subst, Option, Some, None, Ok, refl, sym, ap, ◌∙◌, arith}
use Rattle.std.proofs.lemmas.Bool.{cond_both, and_parts, leb-true, eqb-true}
use Rattle.bpf_isa.specs.declared.insn.Insn.{Insn}
use Rattle.bpf_isa.specs.declared.insn.Insn.TheVariants as insn
use Rattle.bpf_isa.specs.declared.insn.Operand.TheVariants as operand
use Rattle.bpf_isa.specs.declared.insn.Order.{Order}
use Rattle.bpf_isa.specs.declared.insn.Order.TheVariants as order
use Rattle.bpf_isa.specs.declared.insn.Profile.{Profile}
use Rattle.bpf_isa.specs.declared.insn.Profile.TheVariants as profile
use Rattle.bpf_isa.specs.declared.insn.Width.{Width}
use Rattle.bpf_isa.specs.declared.insn.Width.TheVariants as width
use Rattle.bpf_isa.specs.declared.raw.Raw.{Raw}
use Rattle.bpf_isa.specs.Encoding.{alu_code, alu_class, swap_opcode}
use Rattle.bpf_isa.specs.Checks.{is_zero, ◌>>=◌, found, of_bits, takes_register, operand_in}
use Rattle.bpf_isa.specs.Table.{alu_op, neg_in, extended_bits, mov_signed_in, order_of, swapped_bits, swap_in, alu_in, insn_in}
use Rattle.bpf_isa.specs.WellFormed.{has}
use Rattle.bpf_isa.proofs.Codes.{alu_code-alu_op}
use Rattle.bpf_isa.specs.WellFormed.{is_extended}
use Rattle.bpf_isa.proofs.Inverse.{InRange, Inverts, Sound, same_raw, zero_is, checked_sound, found_sound, checked_bind_sound, bit_set, bit_clear, both_in, operand_sound, jump_sound, load_sound, old_form}

of_bits_sound : (p : Profile) (r : Raw) (bits : Option ℕ) (f : ℕ → Insn) → ((n : ℕ) → bits ≡ Some n → Inverts p r (f n)) → Sound p r (of_bits bits f)
of_bits_sound p r None f h = tt
of_bits_sound p r (Some n) f h = h n refl

-- the number n of a field, for which the test holds
abbrev Counts : (ℕ → Bool) → ℕ → Option ℕ → Type 0
Counts test m None = Unit {0}
Counts test m (Some n) = (n ≡ m) × (test n ≡ true)

counted : (test : ℕ → Bool) (k m : ℕ) → (m == k) ≡ true → test k ≡ true → Counts test m (Some k)
counted test k m e h = (sym (eqb-true m k e), h)

swap_test : ℕ → Bool
swap_test n = (n == 16) || (n == 32) || (n == 64)

swapped_bits_count : (m : ℕ) → Counts swap_test m (swapped_bits (pos m))
unfolding swap_test
swapped_bits_count m =
    cond_both (m == 16) _ _ (Counts swap_test m) (λ e. counted swap_test 16 m e refl) (λ _.
    cond_both (m == 32) _ _ (Counts swap_test m) (λ e. counted swap_test 32 m e refl) (λ _.
    cond_both (m == 64) _ _ (Counts swap_test m) (λ e. counted swap_test 64 m e refl) (λ _. tt)))

swapped_bits_some : (z : ℤ) (n : ℕ) → swapped_bits z ≡ Some n → (pos n ≡ z) × (((n == 16) || (n == 32) || (n == 64)) ≡ true)
unfolding swap_test
swapped_bits_some (negsuc m) n e = absurd (cc)
swapped_bits_some (pos m) n e = let both = subst (Counts swap_test m) e (swapped_bits_count m) in (ap (λ (k : ℕ). pos k) both.0, both.1)

extended_bits_count : (w : Width) (m : ℕ) → Counts (is_extended w) m (extended_bits profile.Two w (pos m))
extended_bits_count width.W32 m =
    cond_both (m == 8) _ _ (Counts (is_extended width.W32) m) (λ e. counted (is_extended width.W32) 8 m e refl) (λ _.
    cond_both (m == 16) _ _ (Counts (is_extended width.W32) m) (λ e. counted (is_extended width.W32) 16 m e refl) (λ _. tt))
extended_bits_count width.W64 m =
    cond_both (m == 8) _ _ (Counts (is_extended width.W64) m) (λ e. counted (is_extended width.W64) 8 m e refl) (λ _.
    cond_both (m == 16) _ _ (Counts (is_extended width.W64) m) (λ e. counted (is_extended width.W64) 16 m e refl) (λ _.
    cond_both (m == 32) _ _ (Counts (is_extended width.W64) m) (λ e. counted (is_extended width.W64) 32 m e refl) (λ _. tt)))

extended_bits_some : (p : Profile) (w : Width) (z : ℤ) (n : ℕ) → extended_bits p w z ≡ Some n → (p ≡ profile.Two) × (pos n ≡ z) × (is_extended w n ≡ true)
extended_bits_some profile.One w z n e = absurd (cc)
extended_bits_some profile.Two w (negsuc m) n e = absurd (cc)
extended_bits_some profile.Two w (pos m) n e = let both = subst (Counts (is_extended w) m) e (extended_bits_count w m) in (refl, ap (λ (k : ℕ). pos k) both.0, both.1)

order_of_some : (p : Profile) (w : Width) (bit : Bool) (o : Order) (op : ℕ) → order_of p w bit ≡ Some o → op / 16 ≡ 13 → (op / 8 % 2 == 1) ≡ bit → op % 8 ≡ alu_class w → (p ≡ profile.Two) × (swap_opcode o ≡ op)
order_of_some profile.One w bit o op e code bit_is class = absurd (cc)
order_of_some profile.Two width.W32 false o op e code bit_is class = let same : order.Little ≡ o = cc in (refl, ap swap_opcode (sym same) ∙ omega (arith, bit_clear op bit_is))
order_of_some profile.Two width.W32 true o op e code bit_is class = let same : order.Big ≡ o = cc in (refl, ap swap_opcode (sym same) ∙ omega (arith, bit_set op bit_is))
order_of_some profile.Two width.W64 false o op e code bit_is class = let same : order.Swap ≡ o = cc in (refl, ap swap_opcode (sym same) ∙ omega (arith, bit_clear op bit_is))
order_of_some profile.Two width.W64 true o op e code bit_is class = absurd (cc)

neg_sound : (p : Profile) (w : Width) (r : Raw) → r.op / 16 ≡ 8 → r.op % 8 ≡ alu_class w → Sound p r (neg_in w r)
neg_sound p w r code class =
    cond_both (takes_register r) _ _ (Sound p r) (λ _. tt) (λ t. checked_sound p r (nat_le r.dst 9) ((r.src == 0) && is_zero r.off && is_zero r.imm) (insn.Neg w r.dst) (λ registers zeros.
    let outer = and_parts ((r.src == 0) && is_zero r.off) (is_zero r.imm) zeros in
    let inner = and_parts (r.src == 0) (is_zero r.off) outer.0 in
    record {
      same = same_raw r (0x80 + alu_class w) r.dst 0 (pos 0) (pos 0) (omega (arith, bit_clear r.op t)) refl (sym (eqb-true r.src 0 inner.0)) (zero_is r.off inner.1) (zero_is r.imm outer.1);
      fields = leb-true r.dst 9 registers;
      owned = old_form p (insn.Neg w r.dst) refl;
      no_half = refl;
      no_wide = refl;
    }))

swap_sound : (p : Profile) (w : Width) (r : Raw) → r.op / 16 ≡ 13 → r.op % 8 ≡ alu_class w → Sound p r (swap_in p w r)
swap_sound p w r code class = found_sound p r (order_of p w (takes_register r)) _ (λ o e.
    let row = order_of_some p w (takes_register r) o r.op e code refl class in
    checked_bind_sound p r (nat_le r.dst 9) ((r.src == 0) && is_zero r.off) (swapped_bits r.imm) _ (λ registers zeros.
    let both = and_parts (r.src == 0) (is_zero r.off) zeros in
    of_bits_sound p r (swapped_bits r.imm) (λ n. insn.Swap o n r.dst) (λ n some.
    let bits = swapped_bits_some r.imm n some in
    record {
      same = same_raw r (swap_opcode o) r.dst 0 (pos 0) (pos n) row.1 refl (sym (eqb-true r.src 0 both.0)) (zero_is r.off both.1) bits.0;
      fields = (bits.1, leb-true r.dst 9 registers);
      owned = subst (λ (q : Profile). has q (insn.Swap o n r.dst) ≡ true) (sym row.0) refl;
      no_half = refl;
      no_wide = refl;
    })))

mov_signed_sound : (p : Profile) (w : Width) (r : Raw) → r.op / 16 ≡ 11 → takes_register r ≡ true → r.op % 8 ≡ alu_class w → Sound p r (mov_signed_in p w r)
mov_signed_sound p w r code t class = checked_bind_sound p r (nat_le r.dst 9 && nat_le r.src 9) (is_zero r.imm) (extended_bits p w r.off) _ (λ registers zero.
    of_bits_sound p r (extended_bits p w r.off) (λ n. insn.MovSigned w n r.dst r.src) (λ n some.
    let bits = extended_bits_some p w r.off n some in
    record {
      same = same_raw r (0xb8 + alu_class w) r.dst r.src (pos n) (pos 0) (omega (arith, bit_set r.op t)) refl refl bits.1 (zero_is r.imm zero);
      fields = (bits.2, (both_in r registers).0, (both_in r registers).1);
      owned = subst (λ (q : Profile). has q (insn.MovSigned w n r.dst r.src) ≡ true) (sym bits.0) refl;
      no_half = refl;
      no_wide = refl;
    }))

plain_alu_sound : (p : Profile) (w : Width) (r : Raw) → InRange r → r.op % 8 ≡ alu_class w → Sound p r (found (alu_op (r.op / 16)) (λ op. operand_in r (is_zero r.off) >>= λ src. Ok (insn.Alu w op r.dst src)))
plain_alu_sound p w r within class = found_sound p r (alu_op (r.op / 16)) _ (λ op e.
    let code : alu_code op ≡ r.op / 16 = alu_code-alu_op (r.op / 16) op (omega (arith, within.op)) e in
    operand_sound p r (is_zero r.off) (λ src. insn.Alu w op r.dst src)
    (λ t dst src off imm. record {
      same = same_raw r (16 * alu_code op + alu_class w + 8) r.dst r.src (pos 0) (pos 0) (omega (arith, code, class, bit_set r.op t)) refl refl (zero_is r.off off) imm;
      fields = (dst, src);
      owned = old_form p (insn.Alu w op r.dst (operand.Reg r.src)) refl;
      no_half = refl;
      no_wide = refl;
    })
    (λ t dst off src. record {
      same = same_raw r (16 * alu_code op + alu_class w) r.dst 0 (pos 0) r.imm (omega (arith, code, class, bit_clear r.op t)) refl src (zero_is r.off off) refl;
      fields = (dst, within.imm);
      owned = old_form p (insn.Alu w op r.dst (operand.Imm r.imm)) refl;
      no_half = refl;
      no_wide = refl;
    }))

alu_sound : (p : Profile) (w : Width) (r : Raw) → InRange r → r.op % 8 ≡ alu_class w → Sound p r (alu_in p w r)
unfolding alu_in
alu_sound p w r within class =
    cond_both (r.op / 16 == 0x8) _ _ (Sound p r) (λ e. neg_sound p w r (eqb-true (r.op / 16) 8 e) class) (λ _.
    cond_both (r.op / 16 == 0xd) _ _ (Sound p r) (λ e. swap_sound p w r (eqb-true (r.op / 16) 13 e) class) (λ _.
    cond_both ((r.op / 16 == 0xb) && takes_register r && not (is_zero r.off)) _ _ (Sound p r) (λ e.
    let outer = and_parts ((r.op / 16 == 0xb) && takes_register r) (not (is_zero r.off)) e in
    let inner = and_parts (r.op / 16 == 0xb) (takes_register r) outer.0 in
    mov_signed_sound p w r (eqb-true (r.op / 16) 11 inner.0) inner.1 class) (λ _. plain_alu_sound p w r within class)))

-- what the table gives for a slot has the slot's fields
pub insn_sound : (p : Profile) (r : Raw) → InRange r → Sound p r (insn_in p r)
unfolding insn_in
insn_sound p r within =
    cond_both (r.op == 0x95) _ _ (Sound p r) (λ e. checked_sound p r true ((r.dst == 0) && (r.src == 0) && is_zero r.off && is_zero r.imm) insn.Exit (λ _ zeros. exit_row zeros e)) (λ _.
    cond_both (r.op == 0x05) _ _ (Sound p r) (λ e. checked_sound p r true ((r.dst == 0) && (r.src == 0) && is_zero r.imm) (insn.Goto r.off) (λ _ zeros. goto_row zeros e)) (λ _.
    cond_both (r.op == 0x06) _ _ (Sound p r) (λ e. checked_sound p r true ((r.dst == 0) && (r.src == 0) && is_zero r.off) (insn.GotoLong r.imm) (λ _ zeros. goto_long_row zeros e)) (λ _.
    cond_both (r.op % 8 == 1) _ _ (Sound p r) (λ _. load_sound p r within) (λ _.
    cond_both (r.op % 8 == 4) _ _ (Sound p r) (λ e. alu_sound p width.W32 r within (eqb-true (r.op % 8) 4 e)) (λ _.
    cond_both (r.op % 8 == 5) _ _ (Sound p r) (λ e. jump_sound p width.W64 r within (eqb-true (r.op % 8) 5 e)) (λ _.
    cond_both (r.op % 8 == 6) _ _ (Sound p r) (λ e. jump_sound p width.W32 r within (eqb-true (r.op % 8) 6 e)) (λ _.
    cond_both (r.op % 8 == 7) _ _ (Sound p r) (λ e. alu_sound p width.W64 r within (eqb-true (r.op % 8) 7 e)) (λ _. tt))))))))
  where
    registers : (r.dst == 0) && (r.src == 0) ≡ true → (0 ≡ r.dst) × (0 ≡ r.src)
    registers e = let both = and_parts (r.dst == 0) (r.src == 0) e in (sym (eqb-true r.dst 0 both.0), sym (eqb-true r.src 0 both.1))

    exit_row : ((r.dst == 0) && (r.src == 0) && is_zero r.off && is_zero r.imm) ≡ true → (r.op == 0x95) ≡ true → Inverts p r insn.Exit
    exit_row zeros e =
        let outer = and_parts ((r.dst == 0) && (r.src == 0) && is_zero r.off) (is_zero r.imm) zeros in
        let inner = and_parts ((r.dst == 0) && (r.src == 0)) (is_zero r.off) outer.0 in
        record { same = same_raw r 0x95 0 0 (pos 0) (pos 0) (sym (eqb-true r.op 0x95 e)) (registers inner.0).0 (registers inner.0).1 (zero_is r.off inner.1) (zero_is r.imm outer.1); fields = tt; owned = old_form p insn.Exit refl; no_half = refl; no_wide = refl }

    goto_row : ((r.dst == 0) && (r.src == 0) && is_zero r.imm) ≡ true → (r.op == 0x05) ≡ true → Inverts p r (insn.Goto r.off)
    goto_row zeros e =
        let outer = and_parts ((r.dst == 0) && (r.src == 0)) (is_zero r.imm) zeros in
        record { same = same_raw r 0x05 0 0 r.off (pos 0) (sym (eqb-true r.op 0x05 e)) (registers outer.0).0 (registers outer.0).1 refl (zero_is r.imm outer.1); fields = within.off; owned = old_form p (insn.Goto r.off) refl; no_half = refl; no_wide = refl }

    goto_long_row : ((r.dst == 0) && (r.src == 0) && is_zero r.off) ≡ true → (r.op == 0x06) ≡ true → Inverts p r (insn.GotoLong r.imm)
    goto_long_row zeros e =
        let outer = and_parts ((r.dst == 0) && (r.src == 0)) (is_zero r.off) zeros in
        record { same = same_raw r 0x06 0 0 (pos 0) r.imm (sym (eqb-true r.op 0x06 e)) (registers outer.0).0 (registers outer.0).1 (zero_is r.off outer.1) refl; fields = within.imm; owned = old_form p (insn.GotoLong r.imm) refl; no_half = refl; no_wide = refl }
