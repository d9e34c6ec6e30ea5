-- Lists of the variables of `Read`, computed from the definitions themselves.
use Rattle.std.proofs.Common.{◌≡◌, true, false, [], Some, None, refl, codes}
use Rattle.dp_conf.specs.Levels.{parts_of}
use Rattle.dp_wide.specs.AsteriskFunctions.{functions_a_to_c, functions_d_to_e, functions_f_to_i, functions_j_to_o, functions_p_to_q, functions_r_to_s, functions_t_to_z, is_asterisk_function}
use Rattle.dp_wide.specs.Outside.{name_to_read}
use Rattle.dp_wide.specs.ReadNames.{is_listed, with_listed}

listed-first : with_listed None (codes "PIN") ≡ codes "PIN"
listed-first = refl

listed-second : with_listed (Some (codes "PIN")) (codes "CHOICE") ≡ codes "PIN,CHOICE"
listed-second = refl

listed-again : with_listed (Some (codes "PIN,CHOICE")) (codes "PIN") ≡ codes "PIN,CHOICE"
listed-again = refl

listed-begins : is_listed (codes "PIN,CHOICE") (codes "PI") ≡ false
listed-begins = refl

listed-last : is_listed (codes "PIN,CHOICE") (codes "CHOICE") ≡ true
listed-last = refl

listed-case : is_listed (codes "PIN") (codes "pin") ≡ false
listed-case = refl

read-marked : name_to_read (codes " __PIN ,beep,4") ≡ codes "PIN"
unfolding parts_of
read-marked = refl

read-nothing : name_to_read (codes ",beep") ≡ []
unfolding parts_of
read-nothing = refl

function-first : is_asterisk_function (codes "AES_DECRYPT") ≡ true
unfolding functions_a_to_c
function-first = refl

function-last : is_asterisk_function (codes "VOLUME") ≡ true
unfolding functions_a_to_c functions_d_to_e functions_f_to_i functions_j_to_o functions_p_to_q functions_r_to_s functions_t_to_z
function-last = refl

function-case : is_asterisk_function (codes "db") ≡ false
unfolding functions_a_to_c functions_d_to_e functions_f_to_i functions_j_to_o functions_p_to_q functions_r_to_s functions_t_to_z
function-case = refl

function-none : is_asterisk_function (codes "READ") ≡ false
unfolding functions_a_to_c functions_d_to_e functions_f_to_i functions_j_to_o functions_p_to_q functions_r_to_s functions_t_to_z
function-none = refl
