mod Halls
