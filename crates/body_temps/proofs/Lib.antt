mod Temporaries
